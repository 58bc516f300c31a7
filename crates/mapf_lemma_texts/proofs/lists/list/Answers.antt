use Rattle.std.proofs.Common.{◌≡◌, ◌<◌, arith, ap, subst, length, length-append, [], ◌∷◌, ◌++◌}
use Rattle.std.proofs.lemmas.Result.{err_from_is_err_and}
use Rattle.mapf_certificate.specs.Window.{BeginsWith, Fails}
use Rattle.mapf_certificate.specs.Bounded.{MayFollow}
use Rattle.mapf_fields.proofs.Binds.{pushed}
use Rattle.mapf_certificate.proofs.EntryFronts.{nothing_came}
use Rattle.mapf_certificate.proofs.Windows.{err_passed, ComesWithin-after, Fails-after, Window-within}
use Rattle.mapf_certificate.proofs.Sequences.{goes_on, taken_more, window_more}
use Rattle.mapf_lemma_texts.specs.Listing.{IsListed, value_text}
use Rattle.mapf_lemma_texts.proofs.ListLaws.{values_apart}
use Rattle.mapf_lemma_texts.proofs.lists.list.Goals as goal

pub returns-in_err-value-clause-fails : goal.returns-in_err-value-clause-fails
returns-in_err-value-clause-fails g c =
    let s = g.S.Source in
    let listed = g.T.Listed in
    let mid = s.remaining c.loop-taken.source in
    let left = s.remaining c.next_value.new.source in
    let failed = s.has_failed c.next_value.new.source in
    let here = c.loop-taken.lines.buffer in
    let bounds = c.args.bounds.now in
    let text = value_text bounds.sizes.width listed.line_of in
    let Is = IsListed bounds.sizes listed.line_of (listed.fits bounds.agents.now) in
    let values = c.loop-taken.values.items in
    let fault = c.in_err-value.field-0.0 in
    let less : length values < c.args.count = omega (arith, c.loop-taken.invariant.many, c.loop-taken-test.true) in
    err_passed _ _ _ (err_from_is_err_and _ c.from_residual.ensures.1)
    (Fails-after _ _ _ _ _ _ _ _ _ _ c.loop-taken.invariant.window
    (λ more. goes_on _ Is listed.precedes text (values_apart bounds.sizes listed.line_of (listed.fits bounds.agents.now) listed.precedes g.met.T.Listed.apart) c.args.count values more c.loop-taken.invariant.taken less)
    (subst (λ v. Fails mid left failed here (BeginsWith _ (MayFollow _ Is listed.precedes v) text) fault) c.deref.ensures.value c.in_err-value.ensures.fails))

pub returns-clause-values : goal.returns-clause-values
returns-clause-values g c = record {
  many = omega arith;
  each = c.loop-taken.invariant.taken.each;
  rising = c.loop-taken.invariant.taken.rising;
}

pub loop-taken-preserved : goal.loop-taken-preserved
loop-taken-preserved g c =
    let listed = g.T.Listed in
    let bounds = c.args.bounds.now in
    let text = value_text bounds.sizes.width listed.line_of in
    let Is = IsListed bounds.sizes listed.line_of (listed.fits bounds.agents.now) in
    let values = c.loop-taken.values.items in
    let value = c.in_ok-value.value in
    let grown : c.push.new.self.items ≡ values ++ (value ∷ []) = pushed c.push.result values c.push.new.self.items value c.push.ensures.items c.if-is_err.ensures.value in
    let follows = subst (λ v. MayFollow _ Is listed.precedes v value) c.deref.ensures.value c.in_ok-value.ensures.next in
    record {
      works = c.in_ok-value.ensures.works;
      spare = omega arith;
      many = omega (arith, c.loop-taken.invariant.many, ap length grown, length-append values (value ∷ []));
      taken = taken_more _ _ _ _ _ _ c.loop-taken.invariant.taken follows grown;
      window = window_more text _ _ _ _ _ _ _ _ _ c.loop-taken.invariant.window c.in_ok-value.ensures.taken grown;
    }

pub returns-then-is_err-clause-fails : goal.returns-then-is_err-clause-fails
returns-then-is_err-clause-fails g c = (
  c.in_ok-value.ensures.works,
  ComesWithin-after _ _ _ _ _ _ c.loop-taken.invariant.window (Window-within _ _ _ _ _ c.in_ok-value.ensures.taken),
)

pub returns-in_default-clause-fails : goal.returns-in_default-clause-fails
returns-in_default-clause-fails g c = (c.requires.works, nothing_came _ _)
