-- Bytes spell one good certificate at most, and none's text goes on to be another's.
use Rattle.std.proofs.Common.{◌≡◌, ℕ, List, [], ◌∷◌, ◌++◌, length, Option, Some, Result, Ok, refl, sym, ap, ap₂, ◌∙◌, arith, append_assoc, append-nil, length-append}
use Rattle.std.specs.List.{AllByRecursion}
use Rattle.mill_model.specs.Mill.{Mill, IsInLimits}
use Rattle.cert_view.specs.declared.line.Line.{Line}
use Rattle.cert_view.specs.declared.line.Spelling.{Spelling}
use Rattle.cert_view.specs.Line.{next_line}
use Rattle.cert_view.specs.Text.{line_text}
use Rattle.cert_view.specs.Laws.{BeginsWith}
use Rattle.cert_view.proofs.Feeds.{text_is_read}
use Rattle.cert_text.specs.Certificates.{Certificate, IsGood}
use Rattle.cert_text.specs.Lines.{certificate_lines}
use Rattle.cert_text.specs.Texts.{lines_text, certificate_text, IsReadable}
use Rattle.cert_text.specs.Laws.{OneCertificate, NoProperPrefix}
use Rattle.cert_text.proofs.Wholes.{one_whole}
use Rattle.cert_text.proofs.Readable.{good_lines_are_read}

-- ---- the first line of a text

begins : (line : Line) (xs : List Line) (rest bytes : List ℕ) → IsReadable line → bytes ≡ lines_text (line ∷ xs) ++ rest → BeginsWith line bytes (lines_text xs ++ rest)
begins line xs rest bytes read e = record {
  good = read.good;
  short = read.short;
  text = e ∙ append_assoc (line_text line ++ 10 ∷ []) (lines_text xs) rest ∙ append_assoc (line_text line) (10 ∷ []) (lines_text xs ++ rest);
}

same_first : (a b : Line) (read : Option (Result Line Spelling)) → read ≡ Some (Ok a) → read ≡ Some (Ok b) → a ≡ b
same_first a b read e f = let g : Some (Ok a) ≡ Some (Ok b) = sym e ∙ f in cc

-- ---- a text that begins with another

-- the lines of the one begin with those of the other, and the rest is the text of the others
pub record GoesOn (xs ys : List Line) (more : List ℕ) : Type 0 where
  pub rest : List Line
  pub lines_are : ys ≡ xs ++ rest
  pub more_is : more ≡ lines_text rest

pub goes_on : (xs ys : List Line) (more : List ℕ) → AllByRecursion IsReadable xs → AllByRecursion IsReadable ys → lines_text ys ≡ lines_text xs ++ more → GoesOn xs ys more
goes_on [] ys more h k e = record { rest = ys; lines_are = refl; more_is = sym e }
goes_on (x ∷ xs) [] more h k e =
    absurd (omega (arith, ap length e, length-append ((line_text x ++ 10 ∷ []) ++ lines_text xs) more, length-append (line_text x ++ 10 ∷ []) (lines_text xs), length-append (line_text x) (10 ∷ [])))
goes_on (x ∷ xs) (y ∷ ys) more h k e =
    let bytes : List ℕ = lines_text (y ∷ ys) in
    let first = text_is_read x bytes (lines_text xs ++ more) (begins x xs more bytes h.0 e) in
    let second = text_is_read y bytes (lines_text ys ++ []) (begins y ys [] bytes k.0 (sym (append-nil bytes))) in
    let same : y ≡ x = same_first y x (next_line bytes) second.0 first.0 in
    let others : lines_text ys ≡ lines_text xs ++ more = sym (append-nil (lines_text ys)) ∙ sym second.1 ∙ first.1 in
    let found = goes_on xs ys more h.1 k.1 others in
    record { rest = found.rest; lines_are = ap₂ (λ (z : Line) (zs : List Line). z ∷ zs) same found.lines_are; more_is = found.more_is }

-- ---- the laws

both_whole : (m : Mill) (c d : Certificate) (more : List ℕ) → IsInLimits m → IsGood m c → IsGood m d → certificate_text d ≡ certificate_text c ++ more → (c ≡ d) × (more ≡ [])
both_whole m c d more limited g h e =
    let found = goes_on (certificate_lines c) (certificate_lines d) more (good_lines_are_read m c limited g) (good_lines_are_read m d limited h) e in
    let same = one_whole m c d found.rest [] g h (sym found.lines_are ∙ sym (append-nil (certificate_lines d))) in
    (same.0, found.more_is ∙ ap lines_text same.1)

pub one_certificate : OneCertificate
one_certificate m bytes c d limited g h e f = (both_whole m c d [] limited g h (sym f ∙ e ∙ sym (append-nil (certificate_text c)))).0

pub no_proper_prefix : NoProperPrefix
no_proper_prefix m c d more limited g h e = (both_whole m c d more limited g h e).1
