-- Steps of a desk that may tell or not, one after another.
use Rattle.std.proofs.Common.{Option, Some, None}
use Rattle.slab_desk.specs.Desk.{Told, Steps}

pub steps_join : {P Q R : Told → Told → Type 0} (a b c : Option Told) → ((x y z : Told) → P x y → Q y z → R x z) → Steps a b P → Steps b c Q → Steps a c R
steps_join None None None join p q = tt
steps_join None None (Some z) join p q = q
steps_join None (Some y) c join p q = absurd p
steps_join (Some x) None c join p q = absurd p
steps_join (Some x) (Some y) None join p q = q
steps_join (Some x) (Some y) (Some z) join p q = join x y z p q

pub steps_weaker : {P Q : Told → Told → Type 0} (a b : Option Told) → ((x y : Told) → P x y → Q x y) → Steps a b P → Steps a b Q
steps_weaker None None f p = tt
steps_weaker None (Some y) f p = p
steps_weaker (Some x) None f p = p
steps_weaker (Some x) (Some y) f p = f x y p

pub steps_start : (P : Told → Told → Type 0) (a : Option Told) → ((x : Told) → P x x) → Steps a a P
steps_start P None f = tt
steps_start P (Some x) f = f x
