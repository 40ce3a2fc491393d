-- What a desk that may tell told before calls that only read.
use Rattle.std.proofs.Common.{Option, Some, None, ap, subst}
use Rattle.slab_desk.specs.Desk.{Told, Files, Steps, WhereTold, ChangesLeft}

pub told_before : (P : Files → Type 0) (a b : Option Told) → Steps a b ChangesLeft → WhereTold b (λ t. P t.files) → WhereTold a (λ t. P t.files)
told_before P None b read is = tt
told_before P (Some x) None read is = absurd read
told_before P (Some x) (Some y) read is = subst P (ap (λ (t : Told). t.files) read) is

pub told_both : (P Q R : Files → Type 0) (a : Option Told) → ((files : Files) → P files → Q files → R files) → WhereTold a (λ t. P t.files) → WhereTold a (λ t. Q t.files) → WhereTold a (λ t. R t.files)
told_both P Q R None f p q = tt
told_both P Q R (Some x) f p q = f x.files p q

pub told_each : (P Q : Files → Type 0) (a : Option Told) → ((files : Files) → P files → Q files) → WhereTold a (λ t. P t.files) → WhereTold a (λ t. Q t.files)
told_each P Q None f p = tt
told_each P Q (Some x) f p = f x.files p

-- what holds of all that a desk may tell
pub always_told : (P : Told → Type 0) (a : Option Told) → ((t : Told) → P t) → WhereTold a P
always_told P None f = tt
always_told P (Some x) f = f x

pub always : (a : Option Told) → WhereTold a (λ _. Unit {0})
always a = always_told (λ _. Unit {0}) a (λ _. tt)

-- a step that reads and a step that says or stores, joined
pub joined : {Q R : Told → Told → Type 0} (W : Files → Type 0) (a b c : Option Told)
    → WhereTold a (λ t. W t.files) → ((x y z : Told) → W x.files → ChangesLeft x y → Q y z → R x z) → Steps a b ChangesLeft → Steps b c Q → Steps a c R
joined W None None None w join p q = tt
joined W None None (Some z) w join p q = q
joined W None (Some y) c w join p q = absurd p
joined W (Some x) None c w join p q = absurd p
joined W (Some x) (Some y) None w join p q = q
joined W (Some x) (Some y) (Some z) w join p q = join x y z w p q
