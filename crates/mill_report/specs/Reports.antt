-- What is said of the points of a front. Each text is lines, each ended by a line feed.
use Rattle.std.specs.Prelude.{ℕ, List, [], ◌∷◌, ◌++◌, length, map, codes}
use Rattle.std.specs.List.{flat_map}
use Rattle.std.specs.Fmt.{decimal}
use Rattle.mill_model.specs.Mill.{Mill}
use Rattle.mill_model.specs.Plain.{total_weight}
use Rattle.mill_model.specs.Fronts.{Point}
use Rattle.cert_text.specs.Lines.{sums_line, slab_line, columns_of}
use Rattle.cert_text.specs.Texts.{lines_text}
use Rattle.mill_report.specs.declared.word.Word.{Word}
use Rattle.mill_report.specs.declared.word.Word.TheVariants.{Complete, Budget, NoPlan}

-- how many points there are
abbrev pub front_text : ℕ → List ℕ
front_text count = codes "front " ++ decimal count ++ codes "\n"

-- a point's sums, and the slabs of its plan, both as in a certificate
abbrev pub point_text : Point → List ℕ
point_text point = lines_text (sums_line point.sums ∷ map slab_line (columns_of point.plan))

-- how many nodes were opened, and how many of them are bare
abbrev pub nodes_text : ℕ → ℕ → List ℕ
nodes_text opened bare = codes "nodes " ++ decimal opened ++ codes " bare " ++ decimal bare ++ codes "\n"

abbrev pub word_text : Word → List ℕ
word_text Complete = codes "complete\n"
word_text Budget = codes "budget\n"
word_text NoPlan = codes "noplan\n"

-- the report of `solve` and `resume`
abbrev pub report_text : List Point → ℕ → ℕ → Word → List ℕ
report_text points opened bare word =
    front_text (length points) ++ flat_map point_text points ++ nodes_text opened bare ++ word_text word

-- how many orders a mill has, and what they weigh together
abbrev pub made_text : Mill → List ℕ
made_text m = codes "made " ++ decimal (length m.orders) ++ codes " " ++ decimal (total_weight m) ++ codes "\n"

-- a point's sums alone
abbrev pub sums_text : Point → List ℕ
sums_text point = lines_text (sums_line point.sums ∷ [])

-- the summary of `make`
abbrev pub summary_text : Mill → List Point → ℕ → ℕ → Word → List ℕ
summary_text m points opened bare word = made_text m ++ flat_map sums_text points ++ nodes_text opened bare ++ word_text word
