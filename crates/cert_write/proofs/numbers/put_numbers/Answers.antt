use Rattle.std.proofs.Common.{pos, ◌≡◌, ◌∷◌, ℕ, List, get_or, to_z, of_z, w64, refl, sym, ap, ◌∙◌, append-nil, rules}
use Rattle.std.specs.Prelude.{ℤ, FitsSigned}
use Rattle.std.specs.Fmt.{signed_decimal}
use Rattle.std.proofs.lemmas.Int.{to_z-of_z}
use Rattle.line_out.proofs.Loops.{puts_next, puts_same}
use Rattle.cert_view.specs.Text.{numbers_text}
use Rattle.cert_write.proofs.Lines.{numbers_by_element}
use Rattle.cert_write.proofs.numbers.put_numbers.Goals as goal

pub loop-number-preserved : goal.loop-number-preserved
loop-number-preserved g c =
    let number : ℤ = get_or c.args.numbers.now c.loop-number.number-index (pos 0) in
    let fits : FitsSigned w64 (get_or c.args.numbers.now c.loop-number.number-index (pos 0)) = search rules in
    let same : to_z w64 (of_z w64 number) ≡ number = to_z-of_z w64 number fits in
    puts_next numbers_text numbers_by_element c.args.numbers.now c.loop-number.number-index (pos 0) _ c.loop-number-test.true refl _ _ _ c.loop-number.invariant
    (puts_same _ _ _ _ (ap (λ (n : ℤ). 32 ∷ signed_decimal n) same ∙ ap (λ (t : List ℕ). 32 ∷ t) (sym (append-nil (signed_decimal number)))) c.signed_number.ensures)
