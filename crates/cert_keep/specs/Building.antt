-- A certificate, built from its lines one after another.
use Rattle.std.specs.Prelude.{ℕ, ◌^◌, ℤ, cond, nat_lt, List, [], ◌∷◌, ◌++◌, length, map, replicate, slice_set, Option, Some, None}
use Rattle.mill_model.specs.declared.ask.Ask.{Ask}
use Rattle.mill_model.specs.declared.ask.Ask.TheVariants as asks
use Rattle.mill_model.specs.declared.kind.Kind.{Kind}
use Rattle.mill_model.specs.declared.kind.Kind.TheVariants.{New, Old}
use Rattle.mill_model.specs.declared.mark.Mark.{Mark}
use Rattle.mill_model.specs.declared.mark.Mark.TheVariants as marks
use Rattle.mill_model.specs.declared.steps.Step.{Step}
use Rattle.mill_model.specs.declared.steps.Step.TheVariants as steps
use Rattle.mill_model.specs.declared.sums.Sums.{Sums}
use Rattle.mill_model.specs.declared.version.Version.{Version}
use Rattle.mill_model.specs.declared.version.Version.TheVariants.{One, Two}
use Rattle.mill_model.specs.Plans.{Plan}
use Rattle.mill_model.specs.Marks.{MarkedSteps}
use Rattle.mill_model.specs.Shares.{Share}
use Rattle.mill_model.specs.Trees.{step_of}
use Rattle.mill_model.specs.Fronts.{Point}
use Rattle.cert_view.specs.declared.line.Line.{Line}
use Rattle.cert_view.specs.declared.line.Line.TheVariants as lines
use Rattle.mill_model.specs.Prices.{prices_of}
use Rattle.cert_rules.specs.Numbers.{index, natural, number_at}

-- ---- numbers

-- a number of so many bits, or 0 where it has more; those of good lines have no more
abbrev pub fit : ℕ → ℕ → ℕ
fit bits n = cond (nat_lt n (2 ^ bits)) n 0

abbrev pub index16 : ℤ → ℕ
index16 z = fit 16 (index z)

abbrev pub natural16 : ℤ → ℕ
natural16 z = fit 16 (natural z)

abbrev pub built_sums : List ℤ → Sums
built_sums ns = record { loss = fit 32 (natural (number_at ns 0)); count = natural16 (number_at ns 1) }

-- ---- plans

abbrev pub empty_plan : ℕ → Plan
empty_plan orders = record { kinds = []; place = replicate orders 0 }

-- the orders lie on slab k
abbrev pub put_on : List ℕ → ℕ → List ℕ → List ℕ
put_on place k [] = place
put_on place k (o ∷ orders) = put_on (slice_set place o k) k orders

-- one slab more
abbrev pub add_slab : Plan → Kind → List ℕ → Plan
add_slab p kind orders = record { kinds = p.kinds ++ kind ∷ []; place = put_on p.place (fit 16 (length p.kinds)) orders }

abbrev pub orders16 : List ℤ → List ℕ
orders16 ns = map index16 ns

-- the point that is read: its sums, and its plan so far
abbrev pub Current : Type 0
Current = Option (Sums × Plan)

abbrev pub add_to_current : Current → Kind → List ℕ → Current
add_to_current None kind orders = None
add_to_current (Some current) kind orders = Some (current.0, add_slab current.1 kind orders)

abbrev pub add_new : Current → List ℤ → Current
add_new current [] = current
add_new current (u ∷ ns) = add_to_current current (New (natural16 u)) (orders16 ns)

abbrev pub add_old : Current → List ℤ → Current
add_old current [] = current
add_old current (s ∷ ns) = add_to_current current (Old (index16 s)) (orders16 ns)

-- ---- trees

-- the tree that is read, and the mark of its next question, plain where none was read
pub record Growing : Type 0 where
  pub steps : List Step
  pub marks : List Mark
  pub next : Mark

abbrev pub seedling : Growing
seedling = record { steps = []; marks = []; next = marks.Plain }

abbrev pub tree_of : Growing → MarkedSteps
tree_of g = record { steps = g.steps; marks = g.marks }

abbrev pub add_leaf : ℕ → Growing → List ℤ → Growing
add_leaf orders g ns = record g { steps = g.steps ++ steps.Leaf (prices_of orders ns) ∷ [] }

abbrev pub add_question : Growing → Ask → Growing
add_question g ask = record { steps = g.steps ++ step_of ask ∷ []; marks = g.marks ++ g.next ∷ []; next = marks.Plain }

abbrev pub add_share : Mark → Share → Mark
add_share (marks.Spread shown) share = marks.Spread (record shown { shares = shown.shares ++ share ∷ [] })
add_share marks.Bare share = marks.Bare
add_share marks.Plain share = marks.Plain

abbrev pub add_new_share : Mark → List ℤ → Mark
add_new_share mark [] = mark
add_new_share mark (x ∷ []) = mark
add_new_share mark (x ∷ u ∷ ns) = add_share mark (record { times = x; kind = New (natural16 u); orders = orders16 ns })

abbrev pub add_old_share : Mark → List ℤ → Mark
add_old_share mark [] = mark
add_old_share mark (x ∷ []) = mark
add_old_share mark (x ∷ s ∷ ns) = add_share mark (record { times = x; kind = Old (index16 s); orders = orders16 ns })

-- a spread's mark, before its first share
abbrev pub begun_spread : List ℤ → Mark
begun_spread ns = marks.Spread (record { d = number_at ns 0; shares = [] })

abbrev pub built_pair : List ℤ → Ask
built_pair ns = asks.Pair (index16 (number_at ns 0)) (index16 (number_at ns 1))

abbrev pub built_put : List ℤ → Ask
built_put ns = asks.Put (index16 (number_at ns 0)) (index16 (number_at ns 1))

-- ---- certificates

-- what was read of a certificate: its finished points, the point and the tree that are read, and after `cut` the outline
pub record Built : Type 0 where
  pub version : Version
  pub points : List Point
  pub current : Current
  pub tree : Growing
  pub outline : Option (List (Option Ask))

abbrev pub nothing_built : Built
nothing_built = record { version = One; points = []; current = None; tree = seedling; outline = None }

-- a point is finished where the next one begins
abbrev pub finished : List Point → Current → MarkedSteps → List Point
finished points None tree = points
finished points (Some current) tree = points ++ (record { sums = current.0; plan = current.1; steps = tree }) ∷ []

abbrev pub closed : Built → Built
closed b = record b { points = finished b.points b.current (tree_of b.tree); current = None; tree = seedling }

-- a question of a tree, or of the outline
abbrev pub add_ask_to : Built → Option (List (Option Ask)) → Ask → Built
add_ask_to b None ask = record b { tree = add_question b.tree ask }
add_ask_to b (Some outline) ask = record b { outline = Some (outline ++ Some ask ∷ []) }

abbrev pub add_ask : Built → Ask → Built
add_ask b ask = add_ask_to b b.outline ask

abbrev pub add_open_to : Built → Option (List (Option Ask)) → Built
add_open_to b None = b
add_open_to b (Some outline) = record b { outline = Some (outline ++ None ∷ []) }

-- one line more, of a mill with so many orders
abbrev pub build : ℕ → Built → Line → Built
build orders b lines.Header = record b { version = One }
build orders b lines.Header2 = record b { version = Two }
build orders b (lines.Point ns) = record (closed b) { current = Some (built_sums ns, empty_plan orders) }
build orders b (lines.New ns) = record b { current = add_new b.current ns }
build orders b (lines.Old ns) = record b { current = add_old b.current ns }
build orders b (lines.Pair ns) = add_ask b (built_pair ns)
build orders b (lines.Put ns) = add_ask b (built_put ns)
build orders b (lines.Leaf ns) = record b { tree = add_leaf orders b.tree ns }
build orders b lines.Done = closed b
build orders b lines.Cut = record (closed b) { outline = Some [] }
build orders b lines.Open = add_open_to b b.outline
build orders b lines.Bare = record b { tree = record b.tree { next = marks.Bare } }
build orders b lines.Plain = record b { tree = record b.tree { next = marks.Plain } }
build orders b (lines.Spread ns) = record b { tree = record b.tree { next = begun_spread ns } }
build orders b (lines.CNew ns) = record b { tree = record b.tree { next = add_new_share b.tree.next ns } }
build orders b (lines.COld ns) = record b { tree = record b.tree { next = add_old_share b.tree.next ns } }

-- all lines
abbrev pub build_all : ℕ → Built → List Line → Built
build_all orders b [] = b
build_all orders b (line ∷ rest) = build_all orders (build orders b line) rest
