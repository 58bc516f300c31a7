use Rattle.std.proofs.Common.{◌≡◌, ◌∷◌, [], ◌++◌, Option, Some, None, IfSome, IsSome, IsSomeAnd, map, ap, sym, subst, ◌∙◌, refl}
use Rattle.std.proofs.lemmas.Result.{err_from_is_err_and}
use Rattle.std.proofs.lemmas.List.{map-append}
use Rattle.mapf_model.specs.declared.item.Item.{Item}
use Rattle.mapf_model.specs.Tree.{node_of}
use Rattle.mapf_certificate.specs.CertReading.{Awaits, TakesNode}
use Rattle.mapf_certificate.specs.Window.{IsNoTextFault}
use Rattle.mapf_fields.proofs.Binds.{pushed}
use Rattle.mapf_certificate.proofs.Windows.{err_passed}
use Rattle.mapf_certificate.proofs.Collecting.{collected_none, collected_more, collected_all, collected_only, collected_stops, stops_at, stops_after, err_matches}
use Rattle.mapf_certificate.proofs.cert_reader.collect.Goals as goal

pub returns-in_err-agents-clause-stops : goal.returns-in_err-agents-clause-stops
returns-in_err-agents-clause-stops g c =
    err_passed _ _ _ (err_from_is_err_and _ c.from_residual.ensures.1)
    (stops_at _ _ _ _ _ _ (c.in_err-agents.ensures.fails c.requires.unfaulted))

pub returns-in_err-agents-clause-only : goal.returns-in_err-agents-clause-only
returns-in_err-agents-clause-only g c = λ version agents claim nodes awaits.
    err_matches c.from_residual.result _ IsNoTextFault c.in_err-agents.field-0.0 (err_from_is_err_and _ c.from_residual.ensures.1)
    (c.in_err-agents.ensures.only version agents claim nodes c.requires.unfaulted c.requires.unread awaits)

pub loop-tree-init : goal.loop-tree-init
loop-tree-init g c =
    record {
      works = c.in_ok-agents.ensures.works;
      unfaulted = c.in_ok-agents.ensures.unfaulted;
      read = subst IsSome (sym c.in_ok-agents.ensures.known) refl;
      part = c.in_ok-agents.ensures.part ∙ c.requires.part;
      collected = collected_none _ _ _ _ _ _ _ _
          (ap (map node_of) c.new-tree.ensures.items) (sym c.version-version.ensures) (c.in_ok-agents.ensures.header c.requires.unfaulted c.requires.unread)
          (λ of count says nodes awaits. c.in_ok-agents.ensures.only of count says nodes c.requires.unfaulted c.requires.unread awaits);
    }

pub returns-in_err-item-clause-stops : goal.returns-in_err-item-clause-stops
returns-in_err-item-clause-stops g c =
    let before = c.loop-tree.invariant.collected in
    err_passed _ _ _ (err_from_is_err_and _ c.from_residual-in_err-item.ensures.1)
    (stops_after _ _ _ _ _ _ _ _ _ before.window (c.in_err-item.ensures.fails c.loop-tree.invariant.unfaulted))

pub returns-in_err-item-clause-only : goal.returns-in_err-item-clause-only
returns-in_err-item-clause-only g c = λ version agents claim nodes awaits.
    let unfaulted = c.loop-tree.invariant.unfaulted in
    let part = c.loop-tree.invariant.part in
    err_matches c.from_residual-in_err-item.result _ IsNoTextFault c.in_err-item.field-0.0 (err_from_is_err_and _ c.from_residual-in_err-item.ensures.1)
    (collected_stops _ _ _ _ _ _ _ _ _ c.loop-tree.invariant.collected
    (λ due others next. c.in_err-item.ensures.only_item due others unfaulted part next) (λ next. c.in_err-item.ensures.only_end unfaulted part next) version agents claim nodes awaits)

pub loop-tree-preserved : goal.loop-tree-preserved
loop-tree-preserved g c =
    let s = g.S.Source in
    let mid = s.remaining c.loop-tree.source in
    let now = s.remaining c.next_item.new.source in
    let old = c.loop-tree.lines in
    let new = c.next_item.new.self in
    let unfaulted = c.loop-tree.invariant.unfaulted in
    let part = c.loop-tree.invariant.part in
    let item = c.in-Some.item in
    let here = c.in_ok-item.ensures in
    let items = c.loop-tree.tree.items in
    let grown : c.push.new.self.items ≡ items ++ (item ∷ []) = pushed c.push.result items c.push.new.self.items item c.push.ensures.items c.if-is_err.ensures.value in
    let P : Option Item → Type 0 = λ o. IfSome o (λ i. TakesNode mid now old new (node_of i)) in
    let takes = subst P c.in-Some.is (here.item unfaulted part) in
    record {
      works = here.works;
      unfaulted = here.unfaulted;
      read = subst IsSome (sym here.known.1) c.loop-tree.invariant.read;
      part = here.part (subst IsSome (sym c.in-Some.is) refl);
      collected = collected_more _ _ _ _ _ _ _ _ _ _ _ _ c.loop-tree.invariant.collected takes
          (λ due nodes next.
          let Q : Option Item → Type 0 = λ o. IsSomeAnd o (λ i. (node_of i ≡ due) × Awaits now new nodes) in
          subst Q c.in-Some.is (here.only_item due nodes unfaulted part next))
          (λ next. let wrong : ◌≡◌ {A = Option Item} (Some item) None = sym c.in-Some.is ∙ here.only_end unfaulted part next in cc)
          (ap (map node_of) grown ∙ map-append node_of items (item ∷ []));
    }

pub returns-clause-found : goal.returns-clause-found
returns-clause-found g c = λ bytes known.
    let takes = c.in_ok-item.ensures.end c.loop-tree.invariant.unfaulted c.loop-tree.invariant.part c.in_default.is in
    collected_all _ _ _ _ _ _ _ _ _ _
    c.loop-tree.invariant.collected takes bytes known

pub returns-clause-only : goal.returns-clause-only
returns-clause-only g c = λ version agents claim nodes awaits.
    let s = g.S.Source in
    let now = s.remaining c.next_item.new.source in
    collected_only _ _ _ _ _ _ _ _ c.loop-tree.invariant.collected
    (λ due others next.
    let Q : Option Item → Type 0 = λ o. IsSomeAnd o (λ i. (node_of i ≡ due) × Awaits now c.next_item.new.self others) in
    subst Q c.in_default.is (c.in_ok-item.ensures.only_item due others c.loop-tree.invariant.unfaulted c.loop-tree.invariant.part next))
    version agents claim nodes awaits
