use Rattle.std.proofs.Common.{◌≡◌, ◌∙◌, to_z, of_z, w64}
use Rattle.std.specs.Prelude.{FitsSigned}
use Rattle.std.proofs.lemmas.Int.{to_z-of_z}
use Rattle.line_out.proofs.Putting.{puts_then}
use Rattle.line_out.proofs.Loops.{puts_same}
use Rattle.cert_write.proofs.Lines.{leaf_text}
use Rattle.cert_write.proofs.trees.put_leaf.Goals as goal

pub returns : goal.returns
returns g c =
    let p = c.args.prices.now in
    let lambda_fits : FitsSigned w64 c.lambda.result = record { sfits = c.lambda.type_inv } in
    let mu_fits : FitsSigned w64 c.mu.result = record { sfits = c.mu.type_inv } in
    let lambda_is : to_z w64 (of_z w64 c.lambda.result) ≡ p.lambda = to_z-of_z w64 c.lambda.result lambda_fits ∙ c.lambda.ensures.value in
    let mu_is : to_z w64 (of_z w64 c.mu.result) ≡ p.mu = to_z-of_z w64 c.mu.result mu_fits ∙ c.mu.ensures.value in
    puts_same _ _ _ _ (leaf_text p (to_z w64 (of_z w64 c.lambda.result)) (to_z w64 (of_z w64 c.mu.result)) c.pi.result.now c.sigma.result.now lambda_is mu_is c.pi.ensures.value c.sigma.ensures.value)
    (puts_then _ _ _ _ _ (puts_then _ _ _ _ _ (puts_then _ _ _ _ _ (puts_then _ _ _ _ _ (puts_then _ _ _ _ _ c.put.ensures c.signed_number.ensures) c.signed_number-2.ensures) c.put_numbers.ensures) c.put_numbers-2.ensures) c.end_line.ensures)
