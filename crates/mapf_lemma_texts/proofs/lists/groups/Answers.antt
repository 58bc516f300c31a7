use Rattle.std.proofs.Common.{◌≡◌, ◌<◌, arith, ap, length, length-append, [], ◌∷◌, ◌++◌, All}
use Rattle.std.proofs.lemmas.Result.{err_from_is_err_and}
use Rattle.mapf_fields.proofs.Binds.{pushed}
use Rattle.mapf_certificate.proofs.EntryFronts.{nothing_came}
use Rattle.mapf_certificate.proofs.Windows.{err_passed, ComesWithin-after, Fails-after, Window-within}
use Rattle.mapf_certificate.proofs.Sequences.{goes_on, taken_more, window_more}
use Rattle.mapf_lemmas.specs.Groups.{Group}
use Rattle.mapf_lemma_texts.specs.Listing.{InAnyOrder}
use Rattle.mapf_lemma_texts.specs.Parts.{IsGroupInRange, group_text}
use Rattle.mapf_lemma_texts.proofs.ListLaws.{groups_apart, any_group}
use Rattle.mapf_lemma_texts.proofs.lists.groups.Goals as goal

pub returns-in_err-group-clause-fails : goal.returns-in_err-group-clause-fails
returns-in_err-group-clause-fails g c =
    let sizes = c.args.sizes.now in
    let groups = c.loop-taken.groups.items in
    let less : length groups < c.args.count = omega (arith, c.loop-taken.invariant.many, c.loop-taken-test.true) in
    err_passed _ _ _ (err_from_is_err_and _ c.from_residual.ensures.1)
    (Fails-after _ _ _ _ _ _ _ _ _ _ c.loop-taken.invariant.window
    (λ more begins. any_group sizes groups more (goes_on Group (IsGroupInRange sizes) InAnyOrder (group_text sizes.width) (groups_apart sizes) c.args.count groups more c.loop-taken.invariant.taken less begins))
    c.in_err-group.ensures.fails)

pub returns-clause-values : goal.returns-clause-values
returns-clause-values g c = record {
  many = omega arith;
  each = c.loop-taken.invariant.taken.each;
  rising = c.loop-taken.invariant.taken.rising;
}

pub loop-taken-preserved : goal.loop-taken-preserved
loop-taken-preserved g c =
    let sizes = c.args.sizes.now in
    let groups = c.loop-taken.groups.items in
    let group = c.in_ok-group.group in
    let grown : c.push.new.self.items ≡ groups ++ (group ∷ []) = pushed c.push.result groups c.push.new.self.items group c.push.ensures.items c.if-is_err.ensures.value in
    let free : All (λ b. InAnyOrder b group) groups = λ k d inside. tt in
    record {
      works = c.in_ok-group.ensures.works;
      spare = omega arith;
      many = omega (arith, c.loop-taken.invariant.many, ap length grown, length-append groups (group ∷ []));
      taken = taken_more Group (IsGroupInRange sizes) InAnyOrder _ _ _ c.loop-taken.invariant.taken (c.in_ok-group.ensures.group, free) grown;
      window = window_more (group_text sizes.width) _ _ _ _ _ _ _ _ _ c.loop-taken.invariant.window c.in_ok-group.ensures.taken grown;
    }

pub returns-then-is_err-clause-fails : goal.returns-then-is_err-clause-fails
returns-then-is_err-clause-fails g c = (
  c.in_ok-group.ensures.works,
  ComesWithin-after _ _ _ _ _ _ c.loop-taken.invariant.window (Window-within _ _ _ _ _ c.in_ok-group.ensures.taken),
)

pub returns-in_default-clause-fails : goal.returns-in_default-clause-fails
returns-in_default-clause-fails g c = (c.requires.works, nothing_came _ _)
