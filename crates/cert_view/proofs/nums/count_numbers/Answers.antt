use Rattle.std.proofs.Common.{◌≡◌, ◌<◌, ◌∷◌, length, drop, Some, ◌∙◌, sym, ap, arith}
use Rattle.std.proofs.lemmas.List.{length-drop}
use Rattle.std.proofs.lemmas.Bool.Decides.{nat_tests}
use Rattle.cert_view.specs.Numbers.{first_word, after_word, words_after}
use Rattle.cert_view.proofs.Words.{IsSpaced-first, word_step, counted_on, uncounted, read_number-none, read_number-within, read_number-beyond, and_true, and_false}
use Rattle.cert_view.proofs.nums.count_numbers.Goals as goal
use Rattle.cert_view.proofs.nums.count_numbers.Goals.{in-Within, in-Beyond}

pub returns-in_err-number : goal.returns-in_err-number
returns-in_err-number c =
    let rest = c.loop-rest.rest.now in
    let some : 0 < length rest = grind (arith, nat_tests) in
    let unspelt = read_number-none (first_word (drop 1 rest)) c.in_err-number.ensures.number in
    c.from_residual.ensures ∙ uncounted _ _ _ _ _ _ (word_step rest some c.loop-rest.invariant.0) unspelt c.loop-rest.invariant.2

pub loop-rest-preserved : goal.loop-rest-preserved
loop-rest-preserved c =
    let rest = c.loop-rest.rest.now in
    let word = first_word (drop 1 rest) in
    let some : 0 < length rest = grind (arith, nat_tests) in
    let after : c.in_ok-number.after.now ≡ after_word (drop 1 rest) = c.in_ok-number.ensures.after in
    let step : words_after rest ≡ word ∷ words_after c.in_ok-number.after.now = word_step rest some c.loop-rest.invariant.0 ∙ ap (λ xs. word ∷ words_after xs) (sym after) in (
      rw after (IsSpaced-first (drop 1 rest)),
      rw after (simp length-drop (omega arith)),
      elim c.match-number.branch [
        | in-Within w ↦
            let tells = read_number-within word w.in-Within.field-0 (sym (ap Some w.in-Within.is) ∙ c.in_ok-number.ensures.number) in
            rw (w.within-is) (rw (and_true c.loop-rest.within) at (rw tells.1 at (counted_on _ _ _ _ _ _ step tells.0 c.loop-rest.invariant.2)))
        | in-Beyond w ↦
            let tells = read_number-beyond word (sym (ap Some w.in-Beyond.is) ∙ c.in_ok-number.ensures.number) in
            rw (w.within-is) (rw (and_false c.loop-rest.within) at (rw tells.1 at (counted_on _ _ _ _ _ _ step tells.0 c.loop-rest.invariant.2)))
      ],
    )
