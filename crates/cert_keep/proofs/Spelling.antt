-- What a certificate that was built shows.
use Rattle.std.proofs.Common.{◌≡◌, ℕ, zero, suc, ◌<◌, arith, List, [], ◌∷◌, length, Option, Some, None, refl, sym, ap, ◌∙◌, subst}
use Rattle.mill_model.specs.declared.ask.Ask.{Ask}
use Rattle.mill_model.specs.declared.version.Version.{Version}
use Rattle.mill_model.specs.Mill.{Mill}
use Rattle.mill_model.specs.Marks.{MarkedSteps}
use Rattle.mill_model.specs.Fronts.{Point}
use Rattle.cert_text.specs.Certificates.{Ending, Certificate, IsGood}
use Rattle.cert_text.specs.Certificates.Ending.{Whole, Cut}
use Rattle.cert_text.specs.Texts.{Spells}
use Rattle.cert_rules.specs.States.Wanted.{All, Cuts}
use Rattle.cert_keep.specs.declared.kept.CertRead.TheVariants as certs
use Rattle.cert_keep.specs.declared.kept.CutRead.TheVariants as heads
use Rattle.cert_keep.specs.Building.{Growing, Built, tree_of}
use Rattle.cert_keep.specs.Rebuilt.{rest_tree, outline_of}
use Rattle.cert_keep.specs.Gathering.{IsBuiltFrom, IsSpelledWhole}
use Rattle.cert_keep.specs.Reads.{IsCutRead, IsCertRead}

pub none_from : (points : List Point) → length points ≡ 0 → points ≡ []
none_from [] e = refl
none_from (x ∷ xs) e = absurd (omega (arith, e))

pub some_from : (n : ℕ) → (n ≡ 0 → ⊥) → 0 < n
some_from zero h = absurd (h refl)
some_from (suc n) h = omega arith

cut_of : (ending : Ending) (outline : List (Option Ask)) → outline_of ending ≡ Some outline → ending ≡ Cut outline
cut_of (Whole last) outline e = absurd (let f : None ≡ Some outline = e in cc)
cut_of (Cut found) outline e = let same : found ≡ outline = cc in ap Cut same

whole_of : (ending : Ending) (g : Growing) → outline_of ending ≡ None → g ≡ rest_tree ending → ending ≡ Whole (tree_of g)
whole_of (Whole last) g e f = sym (ap (λ (x : Growing). Whole (tree_of x)) f)
whole_of (Cut found) g e f = absurd (let h : Some found ≡ None = e in cc)

module _ (m : Mill) (bytes : List ℕ) where
  head_spelled : (b : Built) → IsBuiltFrom m Cuts bytes b → IsCutRead m bytes (heads.Head b.points)
  head_spelled b h = (h.certificate, h.spells, record { good = h.good.good; cut = h.good.ends }, sym (ap (λ (x : Built). x.points) h.built))

  pub head_read : (b : Built) (head : List Point) → head ≡ b.points → IsBuiltFrom m Cuts bytes b → IsCutRead m bytes (heads.Head head)
  head_read b head e h = subst (λ (ps : List Point). IsCutRead m bytes (heads.Head ps)) (sym e) (head_spelled b h)

  pub cut_spelled : (b : Built) (outline : List (Option Ask)) → b.outline ≡ Some outline → IsBuiltFrom m All bytes b → IsCertRead m bytes (certs.Cut b.version b.points outline)
  cut_spelled b outline e h =
      let ending : h.certificate.ending ≡ Cut outline = cut_of h.certificate.ending outline (sym (ap (λ (x : Built). x.outline) h.built) ∙ e) in
      let version : h.certificate.version ≡ b.version = sym (ap (λ (x : Built). x.version) h.built) in
      let points : h.certificate.points ≡ b.points = sym (ap (λ (x : Built). x.points) h.built) in
      let same : h.certificate ≡ record { version = b.version; points = b.points; ending = Cut outline } = λ i. record { version = version i; points = points i; ending = ending i } in
      (subst (λ (c : Certificate). Spells bytes c) same h.spells, record { good = subst (λ (c : Certificate). IsGood m c) same h.good.good; cut = tt })

  pub whole_spelled : (b : Built) → b.outline ≡ None → IsBuiltFrom m All bytes b → IsSpelledWhole m bytes b.version b.points (tree_of b.tree)
  whole_spelled b e h =
      let ending : h.certificate.ending ≡ Whole (tree_of b.tree) = whole_of h.certificate.ending b.tree (sym (ap (λ (x : Built). x.outline) h.built) ∙ e) (ap (λ (x : Built). x.tree) h.built) in
      let version : h.certificate.version ≡ b.version = sym (ap (λ (x : Built). x.version) h.built) in
      let points : h.certificate.points ≡ b.points = sym (ap (λ (x : Built). x.points) h.built) in
      let same : h.certificate ≡ record { version = b.version; points = b.points; ending = Whole (tree_of b.tree) } = λ i. record { version = version i; points = points i; ending = ending i } in
      (subst (λ (c : Certificate). Spells bytes c) same h.spells, subst (λ (c : Certificate). IsGood m c) same h.good.good)

  pub no_plan_spelled : (version : Version) (points : List Point) (last : MarkedSteps) → points ≡ [] → IsSpelledWhole m bytes version points last → IsCertRead m bytes (certs.NoPlan version last)
  no_plan_spelled version points last none h =
      let found : IsSpelledWhole m bytes version [] last = subst (λ (ps : List Point). IsSpelledWhole m bytes version ps last) none h in
      (found.0, record { good = found.1; whole = tt; none = refl })

  pub front_spelled : (version : Version) (points : List Point) (last : MarkedSteps) → 0 < length points → IsSpelledWhole m bytes version points last → IsCertRead m bytes (certs.Whole version (record { points = points; last = last }))
  front_spelled version points last some h = (h.0, record { good = h.1; whole = tt; some = some })
