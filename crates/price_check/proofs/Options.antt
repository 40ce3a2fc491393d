-- What holds where an option is none.
use Rattle.std.proofs.Common.{◌≡◌, false, Option, Some, None}
use Rattle.std.specs.Option.{IfNone, is_some}

pub none_weaker : {X : Type 0} (o : Option X) (P Q : Type 0) → (P → Q) → IfNone o P → IfNone o Q
none_weaker None P Q f h = f h
none_weaker (Some x) P Q f h = h

pub none_at : {X : Type 0} (o : Option X) (P : Type 0) → is_some o ≡ false → IfNone o P → P
none_at None P e h = h
none_at (Some x) P e h = cc
