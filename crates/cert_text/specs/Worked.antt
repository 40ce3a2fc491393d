-- Certificates with their texts in full. The second is none of any mill; it has the lines that the first lacks.
use Rattle.std.specs.Prelude.{ℕ, ℤ, pos, negsuc, List, [], ◌∷◌, ◌++◌, Some, None, codes}
use Rattle.mill_model.specs.declared.ask.Ask.TheVariants as asks
use Rattle.mill_model.specs.declared.kind.Kind.{Kind}
use Rattle.mill_model.specs.declared.kind.Kind.TheVariants.{New, Old}
use Rattle.mill_model.specs.declared.mark.Mark.TheVariants.{Spread, Bare, Plain}
use Rattle.mill_model.specs.declared.steps.Step.{Step}
use Rattle.mill_model.specs.declared.steps.Step.TheVariants.{Pair, Put, Leaf}
use Rattle.mill_model.specs.declared.version.Version.TheVariants.{Two}
use Rattle.mill_model.specs.Plans.{Plan}
use Rattle.mill_model.specs.Shares.{Share, Shown}
use Rattle.mill_model.specs.Marks.{MarkedSteps}
use Rattle.cert_text.specs.Certificates.{Certificate}
use Rattle.cert_text.specs.Certificates.Ending.{Whole, Cut}

abbrev pub leaf : ℤ → ℤ → List ℤ → List ℤ → Step
leaf lambda mu pi sigma = Leaf (record { lambda = lambda; mu = mu; pi = pi; sigma = sigma })

abbrev pub share : ℤ → Kind → List ℕ → Share
share times kind orders = record { times = times; kind = kind; orders = orders }

-- ---- three orders of which any two fit a slab

abbrev pub two_slabs : Plan
two_slabs = record { kinds = New 10 ∷ New 10 ∷ []; place = 0 ∷ 0 ∷ 1 ∷ [] }

-- the three pairs at one half each have no loss
abbrev pub three_pairs : Shown
three_pairs = record {
  d = pos 2;
  shares = share (pos 1) (New 10) (0 ∷ 1 ∷ []) ∷ share (pos 1) (New 10) (0 ∷ 2 ∷ [])
      ∷ share (pos 1) (New 10) (1 ∷ 2 ∷ []) ∷ [];
}

abbrev pub one_question : MarkedSteps
one_question = record {
  steps = Pair 0 1 ∷ leaf (pos 1) (pos 0) (pos 0 ∷ pos 0 ∷ pos 5 ∷ []) []
      ∷ leaf (pos 1) (pos 0) (pos 5 ∷ pos 5 ∷ negsuc 4 ∷ []) [] ∷ [];
  marks = Spread three_pairs ∷ [];
}

abbrev pub no_question : MarkedSteps
no_question = record { steps = leaf (pos 0) (pos 2) (pos 1 ∷ pos 1 ∷ pos 1 ∷ []) [] ∷ []; marks = [] }

abbrev pub with_a_spread : Certificate
with_a_spread = record {
  version = Two;
  points = (record { sums = record { loss = 5; count = 2 }; plan = two_slabs; steps = one_question }) ∷ [];
  ending = Whole no_question;
}

abbrev pub spread_text : List ℕ
spread_text =
    codes "slabfront 2\n" ++ codes "point 5 2\n" ++ codes "new 10 1 2\n" ++ codes "new 10 3\n"
    ++ codes "spread 2\n" ++ codes "cnew 1 10 1 2\n" ++ codes "cnew 1 10 1 3\n"
    ++ codes "cnew 1 10 2 3\n" ++ codes "pair 1 2\n" ++ codes "leaf 1 0 0 0 5\n"
    ++ codes "leaf 1 0 5 5 -5\n" ++ codes "done\n" ++ codes "leaf 0 2 1 1 1\n"

-- ---- three questions with the three marks, and an unfinished tree

abbrev pub old_and_new : Plan
old_and_new = record { kinds = Old 0 ∷ New 10 ∷ []; place = 0 ∷ 1 ∷ 0 ∷ [] }

abbrev pub on_one_slab : Shown
on_one_slab = record { d = pos 1; shares = share (pos 1) (Old 0) (0 ∷ 1 ∷ 2 ∷ []) ∷ [] }

abbrev pub three_questions : MarkedSteps
three_questions = record {
  steps = Put 0 0 ∷ Pair 0 2 ∷ leaf (pos 1) (pos 0) (pos 2 ∷ pos 3 ∷ pos 4 ∷ []) (pos 5 ∷ [])
      ∷ Pair 1 2 ∷ leaf (pos 0) (pos 1) (pos 6 ∷ pos 7 ∷ pos 8 ∷ []) (pos 9 ∷ [])
      ∷ leaf (pos 10) (pos 0) (pos 0 ∷ pos 0 ∷ pos 0 ∷ []) (pos 0 ∷ [])
      ∷ leaf (pos 0) (pos 0) (pos 1 ∷ pos 0 ∷ pos 0 ∷ []) (pos 0 ∷ []) ∷ [];
  marks = Spread on_one_slab ∷ Bare ∷ Plain ∷ [];
}

abbrev pub cut_off : Certificate
cut_off = record {
  version = Two;
  points = (record { sums = record { loss = 1; count = 1 }; plan = old_and_new; steps = three_questions }) ∷ [];
  ending = Cut (Some (asks.Put 1 0) ∷ None ∷ None ∷ []);
}

abbrev pub cut_text : List ℕ
cut_text =
    codes "slabfront 2\n" ++ codes "point 1 1\n" ++ codes "old 1 1 3\n" ++ codes "new 10 2\n"
    ++ codes "spread 1\n" ++ codes "cold 1 1 1 2 3\n" ++ codes "put 1 1\n"
    ++ codes "bare\n" ++ codes "pair 1 3\n" ++ codes "leaf 1 0 2 3 4 5\n"
    ++ codes "plain\n" ++ codes "pair 2 3\n" ++ codes "leaf 0 1 6 7 8 9\n"
    ++ codes "leaf 10 0 0 0 0 0\n" ++ codes "leaf 0 0 1 0 0 0\n"
    ++ codes "cut\n" ++ codes "put 2 1\n" ++ codes "open\n" ++ codes "open\n"

-- the same in version 1
abbrev pub plain_text : List ℕ
plain_text =
    codes "slabfront 1\n" ++ codes "point 1 1\n" ++ codes "old 1 1 3\n" ++ codes "new 10 2\n"
    ++ codes "put 1 1\n" ++ codes "pair 1 3\n" ++ codes "leaf 1 0 2 3 4 5\n"
    ++ codes "pair 2 3\n" ++ codes "leaf 0 1 6 7 8 9\n"
    ++ codes "leaf 10 0 0 0 0 0\n" ++ codes "leaf 0 0 1 0 0 0\n"
    ++ codes "cut\n" ++ codes "put 2 1\n" ++ codes "open\n" ++ codes "open\n"
