-- What is read of a cut.
use Rattle.std.proofs.Common.{ℕ, List, ◌++◌, subst}
use Rattle.mill_model.specs.Mill.{Mill, IsInLimits}
use Rattle.mill_model.specs.Fronts.{Point, IsGoodHead}
use Rattle.cert_text.specs.Certificates.{Ending, IsGoodEnded, IsCut}
use Rattle.cert_text.specs.Certificates.Ending.{Whole, Cut}
use Rattle.cert_rules.specs.declared.why.Why.{Why}
use Rattle.cert_rules.specs.States.Wanted.{Cuts}
use Rattle.cert_rules.specs.Stands.Progress.{Failed}
use Rattle.cert_rules.specs.Reading.{IsFirstBad}
use Rattle.cert_rules.proofs.Wholes.{accepted_exactly}
use Rattle.cert_rules.proofs.FirstBad.{one_first_bad_line}
use Rattle.cert_rules.proofs.Standing.{failures_stay, ends_are_right}
use Rattle.cert_keep.specs.declared.kept.CutRead.{CutRead}
use Rattle.cert_keep.specs.declared.kept.CutRead.TheVariants as cuts
use Rattle.cert_check.specs.Whys.{why_of}
use Rattle.cert_check.specs.Readings.{HasBadLine}
use Rattle.cert_keep.specs.Reads.{IsCutRead}
use Rattle.slab_front.specs.Owed.{SpellsCut}
use Rattle.slab_front.specs.Endings.{IsReadCut, HasGoodHead}

pub was_read : (m : Mill) (bytes : List ℕ) (read : CutRead) → IsCutRead m bytes read → IsReadCut m read bytes
was_read m bytes (cuts.Head points) (c, spelled, shows, are) = record { certificate = c; spelled = spelled; shows = shows; points_are = are }
was_read m bytes (cuts.No line broken) is = is.first

-- the points of a good cut are a good head
head_of_cut : (m : Mill) (points : List Point) (ending : Ending) → IsGoodEnded m points ending → IsCut ending → IsGoodHead m points
head_of_cut m points (Whole last) good cut = absurd cut
head_of_cut m points (Cut outline) good cut = good.head

pub good_head : (m : Mill) (bytes : List ℕ) (read : CutRead) → IsReadCut m read bytes → HasGoodHead m read
good_head m bytes (cuts.Head points) is =
    subst (λ (ps : List Point). IsGoodHead m ps) is.points_are (head_of_cut m is.certificate.points is.certificate.ending is.shows.good.ended is.shows.cut)
good_head m bytes (cuts.No line broken) is = tt

-- bytes with a bad line spell no good cut
pub never_both : (m : Mill) (bytes : List ℕ) (points : List Point) (n : ℕ) (broken : Why) → IsInLimits m → SpellsCut m bytes points → IsFirstBad m Cuts bytes n broken → ⊥
never_both m bytes points n broken within spells bad =
    let accepted = (accepted_exactly m Cuts bytes within).1 (spells.certificate, record { good = spells.shows.good; ends = spells.shows.cut }, spells.spelled) in
    one_first_bad_line.0 m Cuts bytes accepted.0 n broken accepted.1 bad

-- where a line is bad, what was read holds of more bytes too
pub bad_stays : (m : Mill) (bytes more : List ℕ) (read : CutRead) → IsInLimits m → HasBadLine Cuts m bytes → IsReadCut m read bytes → IsReadCut m read (bytes ++ more)
bad_stays m bytes more (cuts.Head points) within (n, broken, failed) is = absurd (never_both m bytes points n broken within is (ends_are_right m Cuts bytes (Failed n broken) failed))
bad_stays m bytes more (cuts.No line why) within (n, broken, failed) is =
    let same = one_first_bad_line.1 m Cuts bytes n line broken (why_of why) (ends_are_right m Cuts bytes (Failed n broken) failed) is in
    subst (λ (k : ℕ). IsFirstBad m Cuts (bytes ++ more) k (why_of why)) same.0
    (subst (λ (w : Why). IsFirstBad m Cuts (bytes ++ more) n w) same.1
    (ends_are_right m Cuts (bytes ++ more) (Failed n broken) (failures_stay m Cuts bytes more n broken failed)))
