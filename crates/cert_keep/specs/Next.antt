-- The mark of the next question.
use Rattle.mill_model.specs.declared.mark.Mark.{Mark}
use Rattle.mill_model.specs.declared.mark.Mark.TheVariants as marks
use Rattle.cert_keep.specs.declared.growing.Next.{Next}
use Rattle.cert_keep.specs.declared.growing.Next.TheVariants as nexts

abbrev pub mark_of : Next → Mark
mark_of nexts.Plain = marks.Plain
mark_of nexts.Bare = marks.Bare
mark_of (nexts.Spread d shares) = marks.Spread (record { d = d; shares = shares.items })
