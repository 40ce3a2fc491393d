use Rattle.std.proofs.Common.{◌≡◌, ◌∙◌, ℤ, List, All, IfOk, sym, subst}
use Rattle.cert_view.specs.Number.{IsWithin}
use Rattle.mill_model.specs.Prices.{prices_of}
use Rattle.cert_keep.proofs.Slabbing.{read_back}
use Rattle.cert_keep.proofs.numbers.read_prices.Goals as goal

pub split_prices-requires : goal.split_prices-requires
split_prices-requires c =
    let within : All IsWithin c.as_slice.result.now = subst (λ (xs : List ℤ). All IsWithin xs) (sym c.as_slice.ensures.value) c.in_ok-all.ensures.within in
    subst (λ (xs : List ℤ). All IsWithin xs) (sym (read_back c.as_slice.result.now c.in-len2-up.len_at_least within)) within

pub returns : goal.returns
returns c =
    let within : All IsWithin c.as_slice.result.now = subst (λ (xs : List ℤ). All IsWithin xs) (sym c.as_slice.ensures.value) c.in_ok-all.ensures.within in
    subst (λ (xs : List ℤ). IfOk c.split_prices.result (λ p. p ≡ prices_of c.args.orders xs)) (read_back c.as_slice.result.now c.in-len2-up.len_at_least within ∙ c.as_slice.ensures.value ∙ c.in_ok-all.ensures.value) c.split_prices.ensures
