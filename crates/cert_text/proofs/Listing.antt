-- The lines of a tree, by its steps and marks.
use Rattle.std.proofs.Common.{◌≡◌, List, [], ◌∷◌, ◌++◌, refl, sym, ap, ap₂, ◌∙◌, append_assoc, append-nil}
use Rattle.mill_model.specs.declared.ask.Ask.{Ask}
use Rattle.mill_model.specs.declared.ask.Ask.TheVariants.{Pair, Put}
use Rattle.mill_model.specs.declared.mark.Mark.{Mark}
use Rattle.mill_model.specs.declared.steps.Step.{Step}
use Rattle.mill_model.specs.declared.version.Version.{Version}
use Rattle.mill_model.specs.Prices.{Prices}
use Rattle.mill_model.specs.Trees.{Tree, preorder, marks_of}
use Rattle.mill_model.specs.Trees.Tree.{End, Split}
use Rattle.cert_view.specs.declared.line.Line.{Line}
use Rattle.cert_text.specs.Lines.{ask_line, mark_lines, steps_lines, marked_lines}
use Rattle.cert_text.specs.Laws.{TreesAreListed}

module _ (version : Version) where
  -- steps and marks that begin with those of a tree
  abbrev Listed : Tree Mark Prices → Type 0
  Listed t = (rest : List Step) (left : List Mark) → steps_lines version (preorder t ++ rest) (marks_of t ++ left) ≡ marked_lines version t ++ steps_lines version rest left

  -- the lines of a mark, a question, two trees and what follows
  joined : (marks : List Line) (line : Line) (first second rest : List Line) → marks ++ (line ∷ (first ++ (second ++ rest))) ≡ (marks ++ (line ∷ (first ++ second))) ++ rest
  joined marks line first second rest =
      ap (λ xs. marks ++ (line ∷ xs)) (sym (append_assoc first second rest)) ∙ sym (append_assoc marks (line ∷ (first ++ second)) rest)

  split_listed : (mark : Mark) (ask : Ask) (y n : Tree Mark Prices) → Listed y → Listed n → (rest : List Step) (left : List Mark)
      → mark_lines version mark ++ (ask_line ask ∷ steps_lines version ((preorder y ++ preorder n) ++ rest) ((marks_of y ++ marks_of n) ++ left)) ≡ marked_lines version (Split mark ask y n) ++ steps_lines version rest left
  split_listed mark ask y n first second rest left =
      ap (λ xs. mark_lines version mark ++ (ask_line ask ∷ xs))
      (ap₂ (steps_lines version) (append_assoc (preorder y) (preorder n) rest) (append_assoc (marks_of y) (marks_of n) left) ∙ first (preorder n ++ rest) (marks_of n ++ left) ∙ ap (λ xs. marked_lines version y ++ xs) (second rest left))
      ∙ joined (mark_lines version mark) (ask_line ask) (marked_lines version y) (marked_lines version n) (steps_lines version rest left)

  pub listed : (t : Tree Mark Prices) → Listed t
  listed (End p) rest left = refl
  listed (Split mark (Pair i j) y n) rest left = split_listed mark (Pair i j) y n (listed y) (listed n) rest left
  listed (Split mark (Put o s) y n) rest left = split_listed mark (Put o s) y n (listed y) (listed n) rest left

pub trees_are_listed : TreesAreListed
trees_are_listed version t =
    ap₂ (steps_lines version) (sym (append-nil (preorder t))) (sym (append-nil (marks_of t))) ∙ listed version t [] [] ∙ append-nil (marked_lines version t)
