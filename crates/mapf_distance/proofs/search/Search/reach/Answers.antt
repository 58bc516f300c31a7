use Rattle.std.proofs.Common.{◌≡◌, ◌+◌, ◌++◌, ◌∷◌, [], cond, ap, sym, refl, ◌∙◌, inl}
use Rattle.std.proofs.lemmas.List.{append_assoc, append-nil}
use Rattle.mapf_distance.proofs.search.Search.reach.Goals as goal

pub returns-in_ok-push-3-clause-put : goal.returns-in_ok-push-3-clause-put
returns-in_ok-push-3-clause-put c = λ value is.
    let self = c.args.self.now in
    let due = self.due.items in
    let row = self.next_row.items in
    let cell = c.args.cell in
    let at_level : value ≡ self.level = is ∙ ap (λ flag. cond flag self.level (self.level + 2)) c.if-not-is_due.false in
    let pushed = ap (λ list. due ++ list) c.in_ok-push-3.ensures.items ∙ sym (append_assoc due row (cell ∷ [])) ∙ sym (append-nil (due ++ row ++ cell ∷ [])) in
    inl (at_level, (due ++ row, [], sym (append-nil (due ++ row)), pushed), refl)
