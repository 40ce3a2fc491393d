-- What is said, beside what both programs say (`run_words`). Each text is lines, each ended by a line feed; words and lines are numbered from 1.
use Rattle.std.specs.Prelude.{ℕ, List, [], ◌∷◌, ◌++◌, length, codes}
use Rattle.std.specs.List.{flat_map}
use Rattle.std.specs.Fmt.{decimal}
use Rattle.mill_model.specs.declared.sums.Sums.{Sums}
use Rattle.mill_read.specs.declared.fault.TextFault.{TextFault}
use Rattle.cert_rules.specs.Verdicts.{Verdict}
use Rattle.cert_rules.specs.Verdicts.Verdict.{Front, NoPlan, CutOff, Bad}
use Rattle.run_words.specs.Texts.{line, why_word, bad_line_text}
use Rattle.front_check.specs.declared.texts.Source.{Source}
use Rattle.front_check.specs.declared.texts.Source.TheVariants.{Orders, Yard}

-- ---- refused files

abbrev pub source_word : Source → List ℕ
source_word Orders = codes "orders"
source_word Yard = codes "yard"

-- the first fault of a file
abbrev pub fault_text : Source → TextFault → List ℕ
fault_text source fault = line (codes "input") (source_word source ∷ codes "word" ∷ decimal fault.word ∷ why_word fault.why ∷ [])

-- a file that is too long
abbrev pub long_text : Source → List ℕ
long_text source = line (codes "input") (source_word source ∷ codes "long" ∷ [])

-- ---- verdicts

abbrev pub point_text : Sums → List ℕ
point_text sums = line (codes "point") (decimal sums.loss ∷ decimal sums.count ∷ [])

-- the points of a certificate, and a last word
abbrev pub front_text : List Sums → List ℕ → List ℕ
front_text points last = line (codes "front") (decimal (length points) ∷ []) ++ (flat_map point_text points ++ line last [])

abbrev pub proved_text : List Sums → List ℕ
proved_text points = front_text points (codes "proved")

abbrev pub cut_text : List Sums → List ℕ
cut_text points = front_text points (codes "cut")

abbrev pub no_plan_text : List ℕ
no_plan_text = line (codes "noplan") []

abbrev pub verdict_text : Verdict → List ℕ
verdict_text (Front points) = proved_text points
verdict_text NoPlan = no_plan_text
verdict_text (CutOff points) = cut_text points
verdict_text (Bad number rule) = bad_line_text number rule

-- the status with which each verdict is said
abbrev pub status_of : Verdict → ℕ
status_of (Front points) = 0
status_of NoPlan = 4
status_of (CutOff points) = 3
status_of (Bad number rule) = 7
