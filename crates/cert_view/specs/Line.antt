-- The lines of a certificate.
use Rattle.std.specs.Prelude.{ℕ, ℤ, ◌==◌, Bool, nat_lt, List, [], ◌∷◌, Option, Some, None, Result, Ok, Err, if◌then◌else◌, length, codes, map, min}
use Rattle.std.specs.Str.{bytes_eq}
use Rattle.std.specs.Option.{option_map_or}
use Rattle.std.specs.List.{before_first, after_first, position_or_len, list_all}
use Rattle.cert_view.specs.declared.form.Form.{Form}
use Rattle.cert_view.specs.declared.form.Form.TheVariants as forms
use Rattle.cert_view.specs.declared.line.Line.{Line}
use Rattle.cert_view.specs.declared.line.Line.TheVariants as lines
use Rattle.cert_view.specs.declared.line.Spelling.{Spelling}
use Rattle.cert_view.specs.declared.line.Spelling.TheVariants as spellings
use Rattle.cert_view.specs.Form.{form_of}
use Rattle.cert_view.specs.Number.{is_number, is_within, number_value}
use Rattle.cert_view.specs.Numbers.{first_word, words_after}

-- a line and its line feed are at most so many bytes
abbrev pub most_line : ℕ
most_line = 8192

-- the line of a form with its numbers
abbrev pub line_with : Form → List ℤ → Line
line_with forms.Point ns = lines.Point ns
line_with forms.New ns = lines.New ns
line_with forms.Old ns = lines.Old ns
line_with forms.Pair ns = lines.Pair ns
line_with forms.Put ns = lines.Put ns
line_with forms.Leaf ns = lines.Leaf ns
line_with forms.Done ns = lines.Done
line_with forms.Cut ns = lines.Cut
line_with forms.Open ns = lines.Open
line_with forms.Bare ns = lines.Bare
line_with forms.Plain ns = lines.Plain
line_with forms.Spread ns = lines.Spread ns
line_with forms.CNew ns = lines.CNew ns
line_with forms.COld ns = lines.COld ns

-- the line that a word and the words after it are
abbrev pub line_of_words : List ℕ → List (List ℕ) → Result Line Spelling
line_of_words word words =
    if list_all is_number words then option_map_or (λ form. if list_all is_within words then Ok (line_with form (map number_value words)) else Err spellings.Range) (form_of word (length words)) (Err spellings.Form)
    else Err spellings.Form

-- the line that a text is, without its line feed: `Form` where it has none of the forms, `Range` where it has one and
-- a number is out of the range
unfoldable pub line_of : List ℕ → Result Line Spelling
line_of text =
    if bytes_eq text (codes "slabfront 1") then Ok lines.Header
    else (if bytes_eq text (codes "slabfront 2") then Ok lines.Header2
    else line_of_words (first_word text) (words_after text))

abbrev pub is_feed : ℕ → Bool
is_feed b = b == 10

-- the first line of bytes, nothing where there is no byte: the line needs its line feed, and has at most 8,192 bytes
-- with it
unfoldable pub next_line : List ℕ → Option (Result Line Spelling)
next_line [] = None
next_line (b ∷ bytes) =
    Some (if nat_lt (position_or_len is_feed (b ∷ bytes)) (min (length (b ∷ bytes)) most_line) then line_of (before_first is_feed (b ∷ bytes)) else Err spellings.Form)

-- the bytes after the first line: none where there is no line feed
abbrev pub after_line : List ℕ → List ℕ
after_line bytes = after_first is_feed bytes
