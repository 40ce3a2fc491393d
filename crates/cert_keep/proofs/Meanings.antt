-- What the reading of a certificate means.
use Rattle.std.proofs.Common.{ℕ, List, [], refl, ap}
use Rattle.mill_model.specs.Mill.{Mill}
use Rattle.mill_model.specs.Fronts.{Point, sums_list}
use Rattle.cert_text.specs.Certificates.{Certificate}
use Rattle.cert_text.specs.Certificates.Ending.{Whole as WholeEnding, Cut as CutEnding}
use Rattle.cert_rules.specs.Verdicts.Verdict.{Front, NoPlan, CutOff}
use Rattle.cert_rules.proofs.Verdicts.{verdicts_hold}
use Rattle.cert_keep.specs.declared.kept.CutRead.{CutRead}
use Rattle.cert_keep.specs.declared.kept.CutRead.TheVariants as cuts
use Rattle.cert_keep.specs.declared.kept.CertRead.{CertRead}
use Rattle.cert_keep.specs.declared.kept.CertRead.TheVariants as certs
use Rattle.cert_keep.specs.Reads.{IsCutRead, IsCertRead, CutMeans, CertMeans}

module _ (m : Mill) (bytes : List ℕ) where
  pub cut_means : (read : CutRead) → IsCutRead m bytes read → CutMeans m read
  cut_means (cuts.Head points) h = verdicts_hold m bytes (CutOff (sums_list points)) (h.0, h.1, (h.2, ap (λ (ps : List Point). sums_list ps) h.3))
  cut_means (cuts.No line broken) h = tt

  pub cert_means : (read : CertRead) → IsCertRead m bytes read → CertMeans m read
  cert_means (certs.Whole version front) h =
      let c : Certificate = record { version = version; points = front.points; ending = WholeEnding front.last } in
      verdicts_hold m bytes (Front (sums_list front.points)) (c, h.0, (h.1, refl))
  cert_means (certs.NoPlan version last) h =
      let c : Certificate = record { version = version; points = []; ending = WholeEnding last } in
      verdicts_hold m bytes NoPlan (c, h.0, h.1)
  cert_means (certs.Cut version head outline) h =
      let c : Certificate = record { version = version; points = head; ending = CutEnding outline } in
      verdicts_hold m bytes (CutOff (sums_list head)) (c, h.0, (h.1, refl))
  cert_means (certs.No line broken) h = tt
