use Rattle.std.proofs.Common.{◌≡◌, ◌<◌, arith, ap, sym, subst, length, length-append, [], ◌∷◌, ◌++◌}
use Rattle.std.proofs.lemmas.Result.{err_from_is_err_and}
use Rattle.std.specs.List.{flat_map}
use Rattle.mapf_certificate.specs.Untouched.{TakesThere}
use Rattle.mapf_certificate.specs.Window.{BeginsWith, Fails}
use Rattle.mapf_certificate.specs.Bounded.{MayFollow}
use Rattle.mapf_fields.proofs.Binds.{pushed}
use Rattle.mapf_certificate.proofs.EntryFronts.{nothing_came}
use Rattle.mapf_certificate.proofs.TakenThere.{there-more}
use Rattle.mapf_certificate.proofs.Windows.{err_passed, ComesWithin-after, Fails-after, Window-within}
use Rattle.mapf_certificate.proofs.Sequences.{goes_on, taken_more, window_more}
use Rattle.mapf_certificate.proofs.lines.Lines.list.Goals as goal

pub returns-in_err-value-clause-fails : goal.returns-in_err-value-clause-fails
returns-in_err-value-clause-fails g c =
    let s = g.S.Source in
    let listed = g.T.Listed in
    let mid = s.remaining c.loop-taken.source in
    let left = s.remaining c.next_after.new.source in
    let failed = s.has_failed c.next_after.new.source in
    let here = c.loop-taken.self.buffer in
    let sizes = c.args.sizes.now in
    let values = c.loop-taken.values.items in
    let fault = c.in_err-value.field-0.0 in
    let less : length values < c.args.count = omega (arith, c.loop-taken.invariant.many, c.loop-taken-test.true) in
    err_passed _ _ _ (err_from_is_err_and _ c.from_residual.ensures.1)
    (Fails-after _ _ _ _ _ _ _ _ _ _ c.loop-taken.invariant.window
    (λ more. goes_on _ (listed.is_for sizes) listed.precedes (listed.text sizes.width) c.requires.apart c.args.count values more c.loop-taken.invariant.taken less)
    (subst (λ v. Fails mid left failed here (BeginsWith _ (MayFollow _ (listed.is_for sizes) listed.precedes v) (listed.text sizes.width)) fault) c.deref.ensures.value c.in_err-value.ensures.fails))

pub returns-clause-values : goal.returns-clause-values
returns-clause-values g c = record {
  many = omega arith;
  each = c.loop-taken.invariant.taken.each;
  rising = c.loop-taken.invariant.taken.rising;
}

pub loop-taken-preserved : goal.loop-taken-preserved
loop-taken-preserved g c =
    let listed = g.T.Listed in
    let sizes = c.args.sizes.now in
    let text = listed.text sizes.width in
    let values = c.loop-taken.values.items in
    let value = c.in_ok-value.value in
    let grown : c.push.new.self.items ≡ values ++ (value ∷ []) = pushed c.push.result values c.push.new.self.items value c.push.ensures.items c.if-is_err.ensures.value in
    let follows = subst (λ v. MayFollow _ (listed.is_for sizes) listed.precedes v value) c.deref.ensures.value c.in_ok-value.ensures.next in
    record {
      works = c.in_ok-value.ensures.works;
      spare = omega arith;
      many = omega (arith, c.loop-taken.invariant.many, ap length grown, length-append values (value ∷ []));
      taken = taken_more _ _ _ _ _ _ c.loop-taken.invariant.taken follows grown;
      window = window_more text _ _ _ _ _ _ _ _ _ c.loop-taken.invariant.window c.in_ok-value.ensures.taken grown;
      there = subst (λ v. TakesThere c.args.source.now c.next_after.new.source c.args.self.now.buffer c.next_after.new.lines.buffer (flat_map text v)) (sym grown)
          (there-more text c.args.source.now c.loop-taken.source c.next_after.new.source c.args.self.now.buffer c.loop-taken.self.buffer c.next_after.new.lines.buffer values value c.loop-taken.invariant.there c.in_ok-value.ensures.there);
    }

pub returns-then-is_err-clause-fails : goal.returns-then-is_err-clause-fails
returns-then-is_err-clause-fails g c =
    let s = g.S.Source in (
      c.in_ok-value.ensures.works,
      ComesWithin-after _ _ _ _ _ _ c.loop-taken.invariant.window
          (Window-within _ _ _ _ _ c.in_ok-value.ensures.taken),
    )

pub returns-in_default-clause-fails : goal.returns-in_default-clause-fails
returns-in_default-clause-fails g c = (c.requires.works, nothing_came _ _)
