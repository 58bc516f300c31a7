use Rattle.std.proofs.Common.{◌<◌, length, refl, sym, ◌∙◌, arith}
use Rattle.std.proofs.lemmas.Bool.{eqb-true, eqb-false}
use Rattle.std.proofs.lemmas.Option.{slice_get_read, get_or_from_slice_get}
use Rattle.mapf_checker.proofs.StartLemmas.{takes_block, leaves_end, leaves_block}
use Rattle.mapf_checker.proofs.leaf.is_block_of.Goals as goal

pub returns-then-place-blocks-clause-none : goal.returns-then-place-blocks-clause-none
returns-then-place-blocks-clause-none c _ = leaves_end c.args.blocks.now c.args.place c.args.agent c.requires.rising c.requires.cut c.if-place-blocks.true

pub returns-clause-some : goal.returns-clause-some
returns-clause-some c holds =
    let blocks = c.args.blocks.now in
    let inside : c.args.place < length blocks = omega arith in
    let read = slice_get_read blocks _ c.args.place c.index-blocks-place.result refl inside c.index-blocks-place.is in
    takes_block blocks c.args.place c.args.agent c.requires.rising c.requires.cut c.index-blocks-place.result inside (λ d. get_or_from_slice_get blocks c.args.place c.index-blocks-place.result d read) (sym c.agent_of.ensures ∙ eqb-true _ _ holds)

pub returns-clause-none : goal.returns-clause-none
returns-clause-none c fails =
    let blocks = c.args.blocks.now in
    let inside : c.args.place < length blocks = omega arith in
    let read = slice_get_read blocks _ c.args.place c.index-blocks-place.result refl inside c.index-blocks-place.is in
    leaves_block blocks c.args.place c.args.agent c.requires.rising c.requires.cut c.index-blocks-place.result inside (λ d. get_or_from_slice_get blocks c.args.place c.index-blocks-place.result d read) (λ e. eqb-false _ _ fails (c.agent_of.ensures ∙ e))
