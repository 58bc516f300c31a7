use Rattle.std.proofs.Common.{◌≡◌, ◌++◌, ap, sym, ◌∙◌, append_assoc}
use Rattle.mapf_fields.proofs.Prefixes.{fails_before, passes_then, same_prefix, same_passes, same_or}
use Rattle.mapf_lemmas.specs.Groups.{LeafUses}
use Rattle.mapf_lemma_texts.specs.declared.line.LemmaLine.TheVariants as lines
use Rattle.mapf_lemma_texts.specs.declared.part.Part.TheVariants as parts
use Rattle.mapf_lemma_texts.specs.Listing.{values_text}
use Rattle.mapf_lemma_texts.specs.Parts.{groups_text, more_text}
use Rattle.mapf_lemma_texts.specs.PartValues.{TwoValue}
use Rattle.mapf_lemma_texts.proofs.text_writer.LemmaWriter.rest.Goals as goal

pub returns-in_err-both-in-Two-clause-text : goal.returns-in_err-both-in-Two-clause-text
returns-in_err-both-in-Two-clause-text g c =
    let w = c.args.self.now.width in
    let i = c.lemma-in-Two.inside in
    let one = values_text w lines.Constraint i.constraints.items in
    let two = values_text w lines.At i.first.items in
    let three = values_text w lines.At i.second.items in
    let four = values_text w lines.JointAt i.joint.items in
    let more : one ++ (two ++ (three ++ four)) ≡ more_text w c.args.part.now = ap (λ (z : TwoValue). more_text w (parts.Two z)) c.lemma-in-Two.view_is ∙ ap (more_text w) (sym c.in-Two.is) in
    let front = ap (λ z. values_text w lines.Constraint z ++ values_text w lines.At c.deref-in-Two-2.result.now) c.deref-in-Two.ensures.value ∙ ap (λ z. one ++ values_text w lines.At z) c.deref-in-Two-2.ensures.value in
    same_or _ _ _ _ _ _ (more_text w c.args.part.now) (append_assoc one two (three ++ four) ∙ more)
    (fails_before _ _ _ _ _ _ (one ++ two) (three ++ four) c.from_residual.ensures.1 (same_prefix _ _ _ _ (one ++ two) front c.in_err-both-in-Two.ensures.text))

pub returns-in_ok-both-in-Two-clause-text : goal.returns-in_ok-both-in-Two-clause-text
returns-in_ok-both-in-Two-clause-text g c =
    let w = c.args.self.now.width in
    let i = c.lemma-in-Two.inside in
    let one = values_text w lines.Constraint i.constraints.items in
    let two = values_text w lines.At i.first.items in
    let three = values_text w lines.At i.second.items in
    let four = values_text w lines.JointAt i.joint.items in
    let d3 = c.deref-in-Two-3.result.now in
    let d4 = c.deref-in-Two-4.result.now in
    let more : one ++ (two ++ (three ++ four)) ≡ more_text w c.args.part.now = ap (λ (z : TwoValue). more_text w (parts.Two z)) c.lemma-in-Two.view_is ∙ ap (more_text w) (sym c.in-Two.is) in
    let front = ap (λ z. values_text w lines.Constraint z ++ values_text w lines.At c.deref-in-Two-2.result.now) c.deref-in-Two.ensures.value ∙ ap (λ z. one ++ values_text w lines.At z) c.deref-in-Two-2.ensures.value in
    let back = ap (λ v. values_text v lines.At d3 ++ values_text v lines.JointAt d4) c.in_ok-both-in-Two.ensures.width ∙ ap (λ z. values_text w lines.At z ++ values_text w lines.JointAt d4) c.deref-in-Two-3.ensures.value ∙ ap (λ z. three ++ values_text w lines.JointAt z) c.deref-in-Two-4.ensures.value in
    same_or _ _ _ _ _ _ (more_text w c.args.part.now) (append_assoc one two (three ++ four) ∙ more)
    (passes_then _ _ _ _ _ _ _ (one ++ two) (three ++ four) (same_passes _ _ _ _ _ (one ++ two) front c.in_ok-both-in-Two.ensures.text) (same_or _ _ _ _ _ _ (three ++ four) back c.both-in-Two-2.ensures.text))

pub returns-in_err-values-in-Leaf-clause-text : goal.returns-in_err-values-in-Leaf-clause-text
returns-in_err-values-in-Leaf-clause-text g c =
    let w = c.args.self.now.width in
    let i = c.leaf.inside in
    let one = values_text w lines.Use i.singles.items in
    let two = groups_text w i.groups.items in
    let more : one ++ two ≡ more_text w c.args.part.now = ap (λ (z : LeafUses). more_text w (parts.Leaf z)) c.leaf.view_is ∙ ap (more_text w) (sym c.in-Leaf.is) in
    same_or _ _ _ _ _ _ (more_text w c.args.part.now) more
    (fails_before _ _ _ _ _ _ one two c.from_residual-in_err-values-in-Leaf.ensures.1 (same_prefix _ _ _ _ one (ap (values_text w lines.Use) c.deref-in-Leaf.ensures.value) c.in_err-values-in-Leaf.ensures.text))

pub returns-in_ok-values-in-Leaf-clause-text : goal.returns-in_ok-values-in-Leaf-clause-text
returns-in_ok-values-in-Leaf-clause-text g c =
    let w = c.args.self.now.width in
    let i = c.leaf.inside in
    let one = values_text w lines.Use i.singles.items in
    let two = groups_text w i.groups.items in
    let more : one ++ two ≡ more_text w c.args.part.now = ap (λ (z : LeafUses). more_text w (parts.Leaf z)) c.leaf.view_is ∙ ap (more_text w) (sym c.in-Leaf.is) in
    same_or _ _ _ _ _ _ (more_text w c.args.part.now) more
    (passes_then _ _ _ _ _ _ _ one two (same_passes _ _ _ _ _ one (ap (values_text w lines.Use) c.deref-in-Leaf.ensures.value) c.in_ok-values-in-Leaf.ensures.text)
    (same_or _ _ _ _ _ _ two (ap (λ v. groups_text v c.deref-in-Leaf-2.result.now) c.in_ok-values-in-Leaf.ensures.width ∙ ap (groups_text w) c.deref-in-Leaf-2.ensures.value) c.groups.ensures.text))
