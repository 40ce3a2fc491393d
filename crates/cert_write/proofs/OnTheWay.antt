-- A tree goes out step by step.
use Rattle.std.proofs.Common.{◌≡◌, ℕ, suc, ◌+◌, ◌<◌, List, [], ◌∷◌, ◌++◌, length, drop, get_or, refl, sym, ap, ◌∙◌, append_assoc, append-nil, add-one, subst}
use Rattle.std.proofs.Math.Seq.{drop-cons}
use Rattle.mill_model.specs.declared.mark.Mark.{Mark}
use Rattle.mill_model.specs.declared.steps.Step.{Step}
use Rattle.mill_model.specs.declared.steps.Step.TheVariants.{Pair, Put, Leaf}
use Rattle.mill_model.specs.declared.ask.Ask.TheVariants as asks
use Rattle.mill_model.specs.declared.version.Version.{Version}
use Rattle.slab_desk.specs.Desk.{Told}
use Rattle.cert_text.specs.Lines.{steps_lines, first_mark_lines, ask_line}
use Rattle.cert_text.specs.Texts.{lines_text}
use Rattle.line_out.specs.Seen.{Seen}
use Rattle.line_out.specs.Puts.{Waiting, Puts}
use Rattle.line_out.proofs.Putting.{puts_then}
use Rattle.cert_write.specs.Left.{left_after}
use Rattle.cert_write.proofs.Lines.{lines_by_element}

-- so far this front of the whole text was put
pub record IsOnTheWay (sends : List ℕ → Told → Told → Type 0) (whole rest : List ℕ) (a b : Waiting × Seen) : Type 0 where
  pub front : List ℕ
  pub parts : front ++ rest ≡ whole
  pub puts : Puts sends front a b

pub steps_lines-cons : (version : Version) (step : Step) (rest : List Step) (left : List Mark)
    → steps_lines version (step ∷ rest) left ≡ steps_lines version (step ∷ []) left ++ steps_lines version rest (left_after step left)
steps_lines-cons version (Leaf p) rest left = refl
steps_lines-cons version (Pair i j) rest left = sym (append_assoc (first_mark_lines version left) (ask_line (asks.Pair i j) ∷ []) (steps_lines version rest (left_after (Pair i j) left)))
steps_lines-cons version (Put o s) rest left = sym (append_assoc (first_mark_lines version left) (ask_line (asks.Put o s) ∷ []) (steps_lines version rest (left_after (Put o s) left)))

-- the text of what is left of a tree
abbrev pub rest_text : Version → List Step → List Mark → List ℕ
rest_text version steps left = lines_text (steps_lines version steps left)

pub step_more : {sends : List ℕ → Told → Told → Type 0} (version : Version) (whole : List ℕ) (steps : List Step) (i : ℕ) (d step : Step) (left : List Mark) (a b c : Waiting × Seen)
    → i < length steps → get_or steps i d ≡ step
    → IsOnTheWay sends whole (rest_text version (drop i steps) left) a b
    → Puts sends (rest_text version (step ∷ []) left) b c
    → IsOnTheWay sends whole (rest_text version (drop (i + 1) steps) (left_after step left)) a c
step_more version whole steps i d step left a b c h is so_far next =
    let split : drop i steps ≡ step ∷ drop (i + 1) steps = drop-cons steps i d h ∙ ap (λ (s : Step). s ∷ drop (suc i) steps) is ∙ ap (λ (n : ℕ). step ∷ drop n steps) (sym (add-one i)) in
    let text : rest_text version (drop i steps) left ≡ rest_text version (step ∷ []) left ++ rest_text version (drop (i + 1) steps) (left_after step left) =
    ap (λ (s : List Step). rest_text version s left) split
    ∙ ap lines_text (steps_lines-cons version step (drop (i + 1) steps) left)
    ∙ lines_by_element (steps_lines version (step ∷ []) left) (steps_lines version (drop (i + 1) steps) (left_after step left)) in
    record {
      front = so_far.front ++ rest_text version (step ∷ []) left;
      parts = append_assoc so_far.front (rest_text version (step ∷ []) left) (rest_text version (drop (i + 1) steps) (left_after step left)) ∙ ap (λ (t : List ℕ). so_far.front ++ t) (sym text) ∙ so_far.parts;
      puts = puts_then so_far.front (rest_text version (step ∷ []) left) a b c so_far.puts next;
    }

-- no step is left
pub steps_end : {sends : List ℕ → Told → Told → Type 0} (version : Version) (whole : List ℕ) (steps : List Step) (left : List Mark) (a b : Waiting × Seen)
    → steps ≡ [] → IsOnTheWay sends whole (rest_text version steps left) a b → Puts sends whole a b
steps_end {sends} version whole steps left a b none w =
    let all : w.front ≡ whole = sym (append-nil w.front) ∙ ap (λ (s : List Step). w.front ++ rest_text version s left) (sym none) ∙ w.parts in
    subst (λ (t : List ℕ). Puts sends t a b) all w.puts
