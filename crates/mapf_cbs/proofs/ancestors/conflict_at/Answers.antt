use Rattle.std.proofs.Common.{◌≡◌, ◌≤◌, All, length, subst, sym, ◌∙◌, ap}
use Rattle.mapf_model.specs.Conflicts.{HaveSomeConflict}
use Rattle.mapf_conflicts.specs.Replacements.{with_replacements}
use Rattle.mapf_cbs.proofs.OptionLemmas.{if_none}
use Rattle.mapf_cbs.proofs.ancestors.conflict_at.Goals as goal

pub returns-clause-none : goal.returns-clause-none
returns-clause-none c = if_none c.first_conflict_after_replanning.result (λ none views view are is size some.
    let paths : c.of-paths.result ≡ view.paths = c.of-paths.ensures ∙ ap (with_replacements c.root_paths-root.result.now) c.deref.ensures.value ∙ c.in_ok-replacements.ensures.paths views view are is size in
    none (subst HaveSomeConflict (sym paths) some))
    c.first_conflict_after_replanning.ensures.none

pub returns-clause-short : goal.returns-clause-short
returns-clause-short c views view are is size =
    subst (λ paths. All (λ path. length path ≤ 10000000) paths) (c.in_ok-replacements.ensures.paths views view are is size) c.in_ok-replacements.ensures.short
