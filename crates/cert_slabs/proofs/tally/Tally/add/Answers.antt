use Rattle.std.proofs.Common.{◌≡◌, ◌≤◌, ◌+◌, ℕ, pos, List, get_or, unsigned_abs, ap, sym, subst, length, ◌++◌, ◌∷◌, [], arith}
use Rattle.std.proofs.lemmas.Bool.{false≢true}
use Rattle.mill_model.specs.Plans.{is_new}
use Rattle.cert_slabs.specs.Answers.{share_of}
use Rattle.cert_slabs.specs.Tallies.{Tally, IsTally, StayWithin}
use Rattle.cert_slabs.proofs.TallyLines.{sums_small, stay_orders, orders_fit, kind_fits, cond_small}
use Rattle.cert_slabs.proofs.tally.Tally.add.Goals as goal

pub returns-then-not-cover-clause-cover : goal.returns-then-not-cover-clause-cover
returns-then-not-cover-clause-cover c = λ shares is.
    let m = c.args.mill.now in
    let d = c.self.inside.d in
    let t : Tally = record { d = pos d; begun = c.self.inside.begun; covered = c.self.inside.covered.items; used = c.self.inside.used.items; lost = c.self.inside.lost; opened = c.self.inside.opened } in
    let was : IsTally m (pos d) shares t = subst (λ (x : Tally). IsTally m x.d shares x) (sym c.self.view_is) is in
    let same : unsigned_abs c.args.self.now.d ≡ d = sym (ap (λ (x : Tally). unsigned_abs x.d) c.self.view_is) in (
      λ f. absurd (false≢true f),
      λ stay.
          let stays = subst (λ n. StayWithin m n (shares ++ share_of c.args.times c.args.kind c.args.orders.now ∷ []) c.args.kind) same stay in
          c.if-not-cover.ensures.fits.1 (λ o there. subst (λ (xs : List ℕ). get_or xs o 0 + c.args.times ≤ d) (sym c.deref_mut.ensures.value)
          (orders_fit m (pos d) shares t was c.args.times c.args.kind c.args.orders.now d c.requires.share.rise (stay_orders m d (shares ++ share_of c.args.times c.args.kind c.args.orders.now ∷ []) c.args.kind stays) o there)),
    )

pub returns-then-not-use_kind-clause-cover : goal.returns-then-not-use_kind-clause-cover
returns-then-not-use_kind-clause-cover c = λ shares is.
    let m = c.args.mill.now in
    let d = c.self.inside.d in
    let t : Tally = record { d = pos d; begun = c.self.inside.begun; covered = c.self.inside.covered.items; used = c.self.inside.used.items; lost = c.self.inside.lost; opened = c.self.inside.opened } in
    let was : IsTally m (pos d) shares t = subst (λ (x : Tally). IsTally m x.d shares x) (sym c.self.view_is) is in
    let same : unsigned_abs c.args.self.now.d ≡ d = sym (ap (λ (x : Tally). unsigned_abs x.d) c.self.view_is) in (
      λ f. absurd (false≢true f),
      λ stay.
          let stays = subst (λ n. StayWithin m n (shares ++ share_of c.args.times c.args.kind c.args.orders.now ∷ []) c.args.kind) same stay in
          c.if-not-use_kind.ensures.fits.1 (λ s there. subst (λ (xs : List ℕ). get_or xs s 0 + c.args.times ≤ d) (sym c.deref_mut-2.ensures.value)
          (kind_fits m (pos d) shares t c.args.times c.args.kind c.args.orders.now d was c.requires.share.stock stays s there)),
    )

pub overflow_add-self : goal.overflow_add-self
overflow_add-self c = omega (arith, c.self.invariant.opened_fits, sums_small c.self.inside.d c.self.inside.covered.items c.self.invariant.few c.self.invariant.most c.self.invariant.orders, c.opened_by.ensures, cond_small (is_new c.args.kind) c.args.times, c.requires.share.high)

pub overflow_add-self-2 : goal.overflow_add-self-2
overflow_add-self-2 c = omega (arith, c.self.invariant.lost_fits, sums_small c.self.inside.d c.self.inside.covered.items c.self.invariant.few c.self.invariant.most c.self.invariant.orders, c.lost_by.ensures.small, c.requires.share.high)
