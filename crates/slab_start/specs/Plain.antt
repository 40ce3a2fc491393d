-- Mills that first fit and plain prices settle.
use Rattle.std.specs.Prelude.{◌≡◌, ℕ, ◌+◌, ◌/◌, Some, None}
use Rattle.mill_model.specs.Mill.{Mill}
use Rattle.mill_model.specs.Plans.{Plan, sums_of}
use Rattle.mill_model.specs.Plain.{IsPlainlyRefuted}
use Rattle.mill_model.specs.Fronts.{below}
use Rattle.slab_start.specs.FirstFit.{first_fit}
use Rattle.slab_start.specs.Made.{made_mill}

-- first fit without a limit has a plan of loss 0, and one new slab fewer is plainly refuted
pub record IsPlainMill (m : Mill) : Type 0 where
  pub plan : Plan
  pub first : first_fit m None ≡ Some plan
  pub loss : (sums_of m plan).loss ≡ 0
  pub refuted : IsPlainlyRefuted m (record { loss = None; count = below (Some (sums_of m plan).count) })

-- a made mill is plain, and its first-fit plan has one new slab for each two orders
pub record IsMadePlain (orders seed : ℕ) : Type 0 where
  pub plain : IsPlainMill (made_mill orders seed)
  pub count : (sums_of (made_mill orders seed) plain.plan).count ≡ (orders + 1) / 2

-- every made mill is plain
abbrev pub MadeMillsArePlain : Type 0
MadeMillsArePlain = (orders seed : ℕ) → IsMadePlain orders seed
