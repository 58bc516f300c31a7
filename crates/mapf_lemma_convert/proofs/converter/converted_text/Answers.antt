use Rattle.std.proofs.Common.{All, map, ap, refl, sym, subst, ◌∙◌}
use Rattle.mapf_model.specs.Tree.{node_of}
use Rattle.mapf_lemma_texts.specs.PartWriting.{HasFewValues}
use Rattle.mapf_lemma_convert.specs.Laws.{SpellsConverted}
use Rattle.mapf_lemma_convert.specs.NodeWalk.{LemmasFit, walk_over, walk_start, walked_text}
use Rattle.mapf_lemma_convert.proofs.WalkLemmas.{walk_whole}
use Rattle.mapf_lemma_convert.proofs.WrittenLemmas.{can_be, lemmas_fit, parts_few, spells_converted, written}
use Rattle.mapf_lemma_convert.proofs.converter.converted_text.Goals as goal

pub returns-then-not-lemmas_fit : goal.returns-then-not-lemmas_fit
returns-then-not-lemmas_fit c text version agents claim tree spells cert can =
    let is = c.in-Ok.ensures ∙ ap (λ l. walk_over walk_start (map node_of l)) c.deref.ensures.value ∙ ap (walk_over walk_start) cert.3 ∙ walk_whole tree in
    let fit = lemmas_fit c.args.grid.now text version agents claim tree c.width-width.ensures.shape spells can in
    let fits = subst LemmasFit (sym (c.lemmas.ensures ∙ ap (λ w. w.lemmas) is)) fit in
    let it_does = c.lemmas_fit.ensures.1 fits in
    absurd cc

pub write_walked-requires-clause-lemmas : goal.write_walked-requires-clause-lemmas
write_walked-requires-clause-lemmas c =
    let (text, read) = c.requires in
    let (tree, spells, spelled) = read in
    let cert = c.args.cert.now in
    let is = c.in-Ok.ensures ∙ ap (λ l. walk_over walk_start (map node_of l)) c.deref.ensures.value ∙ ap (walk_over walk_start) spelled ∙ walk_whole tree in
    let fit = c.if-not-lemmas_fit.ensures.0 refl in
    let can = can_be tree (subst LemmasFit (c.lemmas.ensures ∙ ap (λ w. w.lemmas) is) fit) in
    subst (All HasFewValues) (sym (ap (λ w. w.lemmas) is)) (parts_few c.args.grid.now text cert.version cert.agents cert.claim tree c.width-width.ensures.shape spells can).0

pub write_walked-requires-clause-cases : goal.write_walked-requires-clause-cases
write_walked-requires-clause-cases c =
    let (text, read) = c.requires in
    let (tree, spells, spelled) = read in
    let cert = c.args.cert.now in
    let is = c.in-Ok.ensures ∙ ap (λ l. walk_over walk_start (map node_of l)) c.deref.ensures.value ∙ ap (walk_over walk_start) spelled ∙ walk_whole tree in
    let fit = c.if-not-lemmas_fit.ensures.0 refl in
    let can = can_be tree (subst LemmasFit (c.lemmas.ensures ∙ ap (λ w. w.lemmas) is) fit) in
    subst (All HasFewValues) (sym (ap (λ w. w.cases) is)) (parts_few c.args.grid.now text cert.version cert.agents cert.claim tree c.width-width.ensures.shape spells can).1

pub returns-in-Ok-write_walked : goal.returns-in-Ok-write_walked
returns-in-Ok-write_walked c text version agents claim tree spells cert =
    let grid = c.args.grid.now in
    let read = c.args.cert.now in
    let is = c.in-Ok.ensures ∙ ap (λ l. walk_over walk_start (map node_of l)) c.deref.ensures.value ∙ ap (walk_over walk_start) cert.3 ∙ walk_whole tree in
    let fit = c.if-not-lemmas_fit.ensures.0 refl in
    let can = can_be tree (subst LemmasFit (c.lemmas.ensures ∙ ap (λ w. w.lemmas) is) fit) in
    let same = c.into_bytes.ensures ∙ c.in-Ok-write_walked.ensures
    ∙ ap (λ n. walked_text grid.width n read.claim c.in-Ok.walk) cert.1
    ∙ ap (λ says. walked_text grid.width agents says c.in-Ok.walk) cert.2
    ∙ ap (λ w. walked_text grid.width agents claim w) is
    ∙ written grid agents claim tree in
    (can, same, subst (λ new. SpellsConverted grid new agents claim tree) (sym same) (spells_converted grid text version agents claim tree c.width-width.ensures.shape spells can))
