use Rattle.std.proofs.Common.{ap, sym, ◌∙◌}
use Rattle.cert_view.specs.Numbers.{first_word, words_after}
use Rattle.cert_view.specs.Reading.{count_of}
use Rattle.cert_view.specs.Form.{form_of}
use Rattle.cert_view.proofs.Lines.{line-no_numbers, line-no_form, line-range, line-form, AreCounted-from_count}
use Rattle.cert_view.proofs.line.read_words.Goals as goal

pub returns-in_default : goal.returns-in_default
returns-in_default c =
    let counted = ap count_of (sym c.split_word.ensures.words) ∙ sym c.count_numbers.ensures ∙ c.in_default.is in
    line-no_numbers (first_word c.args.text.now) (words_after c.args.text.now) counted

pub returns-in_default-form_of : goal.returns-in_default-form_of
returns-in_default-form_of c =
    let counted = ap count_of (sym c.split_word.ensures.words) ∙ sym c.count_numbers.ensures ∙ c.in-Some.is in
    let formed = ap (λ w. form_of w c.in-Some.count) (sym c.split_word.ensures.word) ∙ sym c.form_of.ensures ∙ c.in_default-form_of.is in
    line-no_form (first_word c.args.text.now) (words_after c.args.text.now) c.in-Some.count c.in-Some.within counted formed

pub returns-then-not-within : goal.returns-then-not-within
returns-then-not-within c =
    let counted = ap count_of (sym c.split_word.ensures.words) ∙ sym c.count_numbers.ensures ∙ c.in-Some.is in
    let formed = ap (λ w. form_of w c.in-Some.count) (sym c.split_word.ensures.word) ∙ sym c.form_of.ensures ∙ c.in-Some-form_of.is in
    line-range (first_word c.args.text.now) (words_after c.args.text.now) c.in-Some.count c.in-Some.within c.in-Some-form_of.form counted formed c.if-not-within.true

pub new-requires : goal.new-requires
new-requires c =
    AreCounted-from_count c.split_word.result.1.now c.in-Some.count c.in-Some.within c.split_word.ensures.spaced (sym c.count_numbers.ensures ∙ c.in-Some.is) c.if-not-within.false

pub returns : goal.returns
returns c =
    let counted = ap count_of (sym c.split_word.ensures.words) ∙ sym c.count_numbers.ensures ∙ c.in-Some.is in
    let formed = ap (λ w. form_of w c.in-Some.count) (sym c.split_word.ensures.word) ∙ sym c.form_of.ensures ∙ c.in-Some-form_of.is in
    rw (c.line_with.ensures, c.new.ensures, c.split_word.ensures.words) (line-form (first_word c.args.text.now) (words_after c.args.text.now) c.in-Some.count c.in-Some.within c.in-Some-form_of.form counted formed c.if-not-within.false)
