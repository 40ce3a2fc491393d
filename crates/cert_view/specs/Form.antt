-- The forms of a line but the headers: a word, and how many numbers follow it.
use Rattle.std.specs.Prelude.{ℕ, ◌==◌, Bool, nat_le, List, [], ◌∷◌, Option, Some, None, if◌then◌else◌, codes}
use Rattle.std.specs.Str.{bytes_eq}
use Rattle.std.specs.List.{find}
use Rattle.std.specs.Option.{option_and_then}
use Rattle.cert_view.specs.declared.form.Form.{Form}
use Rattle.cert_view.specs.declared.form.Form.TheVariants as forms

-- the word that a line of the form begins with
abbrev pub word_of : Form → List ℕ
word_of forms.Point = codes "point"
word_of forms.New = codes "new"
word_of forms.Old = codes "old"
word_of forms.Pair = codes "pair"
word_of forms.Put = codes "put"
word_of forms.Leaf = codes "leaf"
word_of forms.Done = codes "done"
word_of forms.Cut = codes "cut"
word_of forms.Open = codes "open"
word_of forms.Bare = codes "bare"
word_of forms.Plain = codes "plain"
word_of forms.Spread = codes "spread"
word_of forms.CNew = codes "cnew"
word_of forms.COld = codes "cold"

-- whether a line of the form has so many numbers
abbrev pub takes : Form → ℕ → Bool
takes forms.Point count = count == 2
takes forms.New count = nat_le 2 count
takes forms.Old count = nat_le 2 count
takes forms.Pair count = count == 2
takes forms.Put count = count == 2
takes forms.Leaf count = nat_le 2 count
takes forms.Done count = count == 0
takes forms.Cut count = count == 0
takes forms.Open count = count == 0
takes forms.Bare count = count == 0
takes forms.Plain count = count == 0
takes forms.Spread count = count == 1
takes forms.CNew count = nat_le 3 count
takes forms.COld count = nat_le 3 count

abbrev pub all_forms : List Form
all_forms =
    forms.Leaf ∷ forms.Pair ∷ forms.Put ∷ forms.CNew ∷ forms.COld ∷ forms.Spread ∷ forms.Bare ∷ forms.Plain ∷ forms.New ∷ forms.Old ∷ forms.Point ∷ forms.Open ∷ forms.Done ∷ forms.Cut ∷ []

-- the form that begins with the word
unfoldable pub form_named : List ℕ → Option Form
form_named word = find (λ form. bytes_eq word (word_of form)) all_forms

-- the form of a line by its first word and how many numbers follow
abbrev pub form_of : List ℕ → ℕ → Option Form
form_of word count = option_and_then (λ form. if takes form count then Some form else None) (form_named word)
