use Rattle.std.proofs.Common.{◌≡◌, List, [], ◌∷◌, ◌++◌, ◌+◌, take, sym, ◌∙◌, subst, ap}
use Rattle.std.proofs.lemmas.List.{take_more}
use Rattle.std.proofs.lemmas.Slice.Zip.{all_zipped_more}
use Rattle.mapf_model.specs.Blocks.{LabelBlock}
use Rattle.mapf_checker.specs.declared.starts.StartChange.{StartChange}
use Rattle.mapf_checker.specs.Branch.{place_of}
use Rattle.mapf_checker.specs.Starts.{AreChangesBy, IsChangeBy}
use Rattle.mapf_checker.proofs.blocks.changes_by.Goals as goal

pub loop-block-preserved : goal.loop-block-preserved
loop-block-preserved c =
    let problem = c.args.problem.now in
    let entries = (place_of c.args.branch.now).here.entries in
    let blocks = c.args.blocks.now in
    let more : take (c.loop-block.block-index + 1) blocks ≡ take c.loop-block.block-index blocks ++ c.block-item.result ∷ [] =
    take_more blocks c.loop-block.block-index c.block-item.result c.loop-block-test.true ∙ ap (λ (b : LabelBlock). take c.loop-block.block-index blocks ++ b ∷ []) (sym c.block-item.is) in
    subst (λ (before : List LabelBlock). AreChangesBy problem entries before c.push.new.self.items) (sym more)
    (subst (λ (changes : List StartChange). AreChangesBy problem entries (take c.loop-block.block-index blocks ++ c.block-item.result ∷ []) changes) (sym c.in_ok-push.ensures.items)
    (all_zipped_more (IsChangeBy problem entries) (take c.loop-block.block-index blocks) c.loop-block.changes.items c.block-item.result c.change_by.result c.loop-block.invariant c.change_by.ensures))
