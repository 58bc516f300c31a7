use Rattle.std.proofs.Common.{ℕ, refl, arith}
use Rattle.mapf_model.specs.declared.item.Claim.{Claim}
use Rattle.mapf_certificate.proofs.Windows.{device_if_fails, no_inner_memory, pulls_if_fails, pulls_in_window}
use Rattle.mapf_lemma_texts.proofs.PartHeaders.{header_joins, header_same, header_awaited}
use Rattle.mapf_lemma_texts.proofs.part_reader.PartReader.header.Goals as goal

pub returns-in-Ok-clause-header : goal.returns-in-Ok-clause-header
returns-in-Ok-clause-header g c =
    let h = c.in-Ok in
    let taken = h.ensures.taken c.self.inside.width in
    let sized = c.first_sizes.ensures in
    rw (← c.self.view_is) (λ p. record {
      agents_in_range = h.ensures.agents;
      claim_in_range = h.ensures.claim;
      sizes = c.first_sizes.result;
      first_sizes = sized;
      header = refl;
      window = taken;
      joins = header_joins _ _ _ _ _ _ c.first_sizes.result h.ensures.agents h.ensures.claim sized refl refl taken;
    })

pub returns-in-Ok-clause-only : goal.returns-in-Ok-clause-only
returns-in-Ok-clause-only g c =
    let h = c.in-Ok in
    rw (← c.self.view_is) (λ agents claim ps p awaits. header_same _ _ _ _ _ _ _ _ c.first_sizes.result ps h.ensures.agents h.ensures.claim c.first_sizes.ensures refl refl (h.ensures.taken c.self.inside.width) awaits)

pub returns-in-Err-clause-fails : goal.returns-in-Err-clause-fails
returns-in-Err-clause-fails g c = rw (← c.self.view_is) (λ p. c.in-Err.ensures.fails c.self.inside.width)

pub returns-in-Err-clause-only : goal.returns-in-Err-clause-only
returns-in-Err-clause-only g c = rw (← c.self.view_is) (λ agents claim ps p awaits. header_awaited _ _ _ _ _ _ _ _ awaits (c.in-Err.ensures.fails c.self.inside.width))

pub invariant_of-self-in-Err : goal.invariant_of-self-in-Err
invariant_of-self-in-Err g c =
    let i = c.self.inside in
    let is = c.self.invariant in
    record {
      columns = is.columns;
      rows = is.rows;
      bounded = omega (arith, is.bounded, c.read_header.ensures.spare);
      faults = no_inner_memory _ _ _ _ _ _ (c.in-Err.ensures.fails i.width);
    }

pub returns-in-Ok-clause-pulls : goal.returns-in-Ok-clause-pulls
returns-in-Ok-clause-pulls g c = rw (← c.self.view_is) (λ p. pulls_in_window _ _ _ _ _ _ (c.in-Ok.ensures.taken c.self.inside.width))

pub returns-in-Err-clause-device : goal.returns-in-Err-clause-device
returns-in-Err-clause-device g c = λ p. device_if_fails {A = ℕ × Claim} _ _ _ _ _ _ (c.in-Err.ensures.fails c.self.inside.width)

pub returns-in-Err-clause-pulls : goal.returns-in-Err-clause-pulls
returns-in-Err-clause-pulls g c = rw (← c.self.view_is) (λ p. pulls_if_fails {A = ℕ × Claim} _ _ _ _ _ _ (c.in-Err.ensures.fails c.self.inside.width))

pub returns-in-Err-clause-inner : goal.returns-in-Err-clause-inner
returns-in-Err-clause-inner g c = no_inner_memory _ _ _ _ _ _ (c.in-Err.ensures.fails c.self.inside.width)
