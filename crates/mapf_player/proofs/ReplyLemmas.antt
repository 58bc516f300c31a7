-- Every agent that asks gets a reply, and what is written of the replies.
use Rattle.std.proofs.Common.{◌≡◌, ◌≢◌, ◌⊎◌, ℕ, zero, suc, ◌+◌, ◌<◌, ◌≤◌, List, [], ◌∷◌, ◌++◌, All, Option, Some, length, take, drop, get_or, slice_get, refl, sym, ap, subst, ◌∙◌, inl, inr, ⊎_elim, arith, append_assoc, append-nil, take-append-drop}
use Rattle.std.proofs.lemmas.Bool.{cases_eq, cases_lt}
use Rattle.std.proofs.lemmas.List.{take_more}
use Rattle.std.proofs.lemmas.Option.{same_Some, slice_get_past, slice_get_within}
use Rattle.mapf_model.proofs.ClaimLemmas.{slice_get_inside}
use Rattle.mapf_model.proofs.PlaceLemmas.{length-slice_set, same_places, All-later}
use Rattle.mapf_player.specs.declared.visit.Visit.{Visit}
use Rattle.mapf_player.specs.declared.reply.Reply.{Reply}
use Rattle.mapf_player.specs.declared.reply.Reply.TheVariants.{Go, Hold, Done}
use Rattle.mapf_player.specs.Dispatching.{Progress, IsProgress, IsInOrder, IsNext, IsAwaited, IsReply, AreReplies, beginning}
use Rattle.mapf_player.specs.DispatchLaws.{EveryAgentIsAnswered, ReplyTextsAreOne}
use Rattle.mapf_player.specs.Visits.{AreVisitsOfAll}
use Rattle.mapf_fields.specs.Pages.{Passes, WritesPrefix}
use Rattle.mapf_player.specs.Replies.{reply_line, reply_text}
use Rattle.mapf_player.proofs.DispatchLemmas.{kept_by_reply, replies_are_one, replies_join, with_number}
use Rattle.mapf_player.proofs.DueLemmas.{next_none, of_valid_progress}
use Rattle.mapf_fields.proofs.Prefixes.{passes_trans, prefix_after, prefix_held}
use Rattle.mapf_player.proofs.VisitLemmas.{visits_are_one}

-- one of the visits from this number on is of the same cell and earlier
abbrev IsEarlier : List Visit → Visit → ℕ → ℕ → Type 0
IsEarlier own visit from n = (earlier : Visit) × (slice_get own n ≡ Some earlier) × (earlier.cell ≡ visit.cell) × (earlier.entry < visit.entry) × (from ≤ n)

earlier_or_none : (own : List Visit) (visit : Visit) (from : ℕ) → ((n : ℕ) × IsEarlier own visit from n) ⊎ ((n : ℕ) → IsEarlier own visit from n → ⊥)
earlier_or_none [] visit from = inr (λ n (earlier, is, cell, entry, late). absurd cc)
earlier_or_none (v ∷ own) visit (suc from) = ⊎_elim
    (λ found. let (n, (earlier, is, cell, entry, late)) = found in inl (suc n, (earlier, is, cell, entry, omega arith)))
    (λ none. inr (after none))
    (earlier_or_none own visit from)
  where
    after : ((n : ℕ) → IsEarlier own visit from n → ⊥) → (n : ℕ) → IsEarlier (v ∷ own) visit (suc from) n → ⊥
    after none zero (earlier, is, cell, entry, late) = absurd (omega arith)
    after none (suc n) (earlier, is, cell, entry, late) = none n (earlier, is, cell, entry, omega arith)
earlier_or_none (v ∷ own) visit zero = ⊎_elim
    (λ found. let (n, (earlier, is, cell, entry, late)) = found in inl (suc n, (earlier, is, cell, entry, omega arith)))
    (λ none. ⊎_elim
    (λ (cell : v.cell ≡ visit.cell). ⊎_elim
    (λ (entry : v.entry < visit.entry). inl (0, (v, refl, cell, entry, omega arith)))
    (λ (late : visit.entry ≤ v.entry). inr (first none (λ (c : v.cell ≡ visit.cell) (e : v.entry < visit.entry). omega arith)))
    (cases_lt v.entry visit.entry))
    (λ (other : v.cell ≢ visit.cell). inr (first none (λ (c : v.cell ≡ visit.cell) (e : v.entry < visit.entry). other c)))
    (cases_eq v.cell visit.cell))
    (earlier_or_none own visit zero)
  where
    first : ((n : ℕ) → IsEarlier own visit zero n → ⊥) → (v.cell ≡ visit.cell → v.entry < visit.entry → ⊥) → (n : ℕ) → IsEarlier (v ∷ own) visit zero n → ⊥
    first none this zero (earlier, is, cell, entry, late) =
        let same = same_Some v earlier is in
        this (ap (λ (w : Visit). w.cell) same ∙ cell) (subst (λ (w : Visit). w.entry < visit.entry) (sym same) entry)
    first none this (suc n) (earlier, is, cell, entry, late) = none n (earlier, is, cell, entry, omega arith)

module _ (before : Progress) (progress : IsProgress before) (agent : ℕ) (visit : Visit) where
  awaited_within : (other : ℕ) → IsAwaited before agent visit other → other < length before.visits
  awaited_within other (differ, n, earlier, (own, own_is, is), cell, entry, still) = slice_get_within before.visits other own own_is

  awaited_or_not : (other : ℕ) → IsAwaited before agent visit other ⊎ (IsAwaited before agent visit other → ⊥)
  awaited_or_not other = ⊎_elim
      (λ (same : other ≡ agent). inr (λ awaited. awaited.0 same))
      (λ (differ : other ≢ agent). ⊎_elim
      (λ (within : other < length before.visits). here differ within)
      (λ (beyond : length before.visits ≤ other). inr (λ awaited. let within = awaited_within other awaited in omega arith))
      (cases_lt other (length before.visits)))
      (cases_eq other agent)
    where
      here : other ≢ agent → other < length before.visits → IsAwaited before agent visit other ⊎ (IsAwaited before agent visit other → ⊥)
      here differ within =
          let (own, own_is) = slice_get_inside before.visits other within in
          let (current, current_is) = slice_get_inside before.numbers other (let count = progress.count in omega arith) in
          ⊎_elim
          (λ found. let (n, (earlier, is, cell, entry, late)) = found in inl (
            differ,
            n,
            earlier,
            (own, own_is, is),
            cell,
            entry,
            λ left. let same : left.0 ≡ current = same_Some left.0 current (sym left.1 ∙ current_is) in let past = left.2 in omega arith,
          ))
          (λ none. inr (λ awaited.
          let (other_differ, n, earlier, (list, list_is, is), cell, entry, still) = awaited in
          let same : list ≡ own = same_Some list own (sym list_is ∙ own_is) in
          ⊎_elim
          (λ (past : n < current). still (current, current_is, past))
          (λ (late : current ≤ n). none n (earlier, subst (λ l. slice_get l n ≡ Some earlier) same is, cell, entry, late))
          (cases_lt n current)))
          (earlier_or_none own visit current)

-- the least number that has a property, or no number below k has it
least_or_none : (P : ℕ → Type 0) → ((n : ℕ) → P n ⊎ (P n → ⊥)) → (k : ℕ) → ((n : ℕ) × P n × ((m : ℕ) → P m → n ≤ m)) ⊎ ((m : ℕ) → m < k → P m → ⊥)
least_or_none P decide zero = inr (λ m low is. absurd (omega arith))
least_or_none P decide (suc k) = ⊎_elim
    (λ found. inl found)
    (λ none. ⊎_elim
    (λ (here : P k). inl (k, here, λ m is. ⊎_elim (λ (low : m < k). absurd (none m low is)) (λ (high : k ≤ m). high) (cases_lt m k)))
    (λ (not_here : P k → ⊥). inr (λ m low is. ⊎_elim (λ (lower : m < k). none m lower is) (λ (high : k ≤ m). let at : m ≡ k = omega arith in not_here (subst P at is)) (cases_lt m k)))
    (decide k))
    (least_or_none P decide k)

-- each agent that asks gets a reply
pub answered : (before : Progress) (agent : ℕ) → IsProgress before → agent < length before.numbers → (reply : Reply) × (after : Progress) × IsReply before agent reply after
answered before agent progress within =
    let (number, number_is) = slice_get_inside before.numbers agent within in
    let (visit, (own, own_is, visit_is)) = progress.each agent number number_is in
    ⊎_elim
    (λ (more : number + 1 < length own).
    let (next, next_is) = slice_get_inside own (number + 1) more in
    let is_next : IsNext before agent next = (number, number_is, (own, own_is, next_is)) in
    ⊎_elim
    (λ found. let (other, awaited, least) = found in (Hold other, before, (refl, next, is_next, awaited, least)))
    (λ none. (
      Go next.cell,
      with_number before agent (number + 1),
      ((number, number_is, refl), next, is_next, refl, λ other awaited. none other (awaited_within before progress agent next other awaited) awaited),
    ))
    (least_or_none (IsAwaited before agent next) (awaited_or_not before progress agent next) (length before.visits)))
    (λ (last : length own ≤ number + 1). (Done, before, (refl, visit, (number, number_is, (own, own_is, visit_is)), next_none before agent number own number_is own_is last)))
    (cases_lt (number + 1) (length own))

-- a reply doesn't change the number of agents
pub numbers_kept : (before after : Progress) (agent : ℕ) (reply : Reply) → IsReply before agent reply after → length after.numbers ≡ length before.numbers
numbers_kept before after agent Done reply = ap (λ (p : Progress). length p.numbers) (sym reply.0)
numbers_kept before after agent (Hold other) reply = ap (λ (p : Progress). length p.numbers) (sym reply.0)
numbers_kept before after agent (Go cell) reply = ap (λ (p : Progress). length p.numbers) reply.0.2 ∙ length-slice_set before.numbers agent (reply.0.0 + 1)

-- and so do agents that ask one after another
pub all_answered : (agents : List ℕ) (before : Progress) → IsProgress before → IsInOrder before → All (λ agent. agent < length before.numbers) agents → (replies : List Reply) × (after : Progress) × AreReplies before agents replies after
all_answered [] before progress order low = ([], before, refl)
all_answered (agent ∷ agents) before progress order low =
    let (reply, between, is) = answered before agent progress (low 0 0 (omega arith)) in
    let kept = kept_by_reply before between agent reply is progress order in
    let same : length between.numbers ≡ length before.numbers = numbers_kept before between agent reply is in
    let (replies, after, are) = all_answered agents between kept.1 kept.2 (λ k d within. let here = low (suc k) d (omega arith) in omega arith) in
    (reply ∷ replies, after, (between, is, are))

-- the lines of two lists of replies
pub text_joins : (width : ℕ) (agents : List ℕ) (replies : List Reply) (before between : Progress) (others : List ℕ) (more : List Reply) → AreReplies before agents replies between → reply_text width (agents ++ others) (replies ++ more) ≡ reply_text width agents replies ++ reply_text width others more
text_joins width [] [] before between others more same = refl
text_joins width [] (reply ∷ replies) before between others more none = absurd none
text_joins width (agent ∷ agents) [] before between others more none = absurd none
text_joins width (agent ∷ agents) (reply ∷ replies) before between others more (next, first, rest) =
    ap (λ t. reply_line width agent reply ++ t) (text_joins width agents replies next between others more rest)
    ∙ sym (append_assoc (reply_line width agent reply) (reply_text width agents replies) (reply_text width others more))

-- the agents up to the one at this place have asked, and this one gets a reply
module _ (width : ℕ) (agents : List ℕ) (place agent : ℕ) (within : place < length agents) (is : agent ≡ get_or agents place 0) (before between after : Progress) (replies : List Reply) (replied : AreReplies before (take place agents) replies between) (reply : Reply) (answer : IsReply between agent reply after) where
  next_place : take (place + 1) agents ≡ take place agents ++ agent ∷ []
  next_place = take_more agents place 0 within ∙ ap (λ x. take place agents ++ x ∷ []) (sym is)

  pub replied_more : AreReplies before (take (place + 1) agents) (replies ++ reply ∷ []) after
  replied_more = subst (λ xs. AreReplies before xs (replies ++ reply ∷ []) after) (sym next_place)
      (replies_join (take place agents) replies before between after (agent ∷ []) (reply ∷ []) replied (after, answer, refl))

  text_more : reply_text width (take (place + 1) agents) (replies ++ reply ∷ []) ≡ reply_text width (take place agents) replies ++ reply_line width agent reply
  text_more = ap (λ xs. reply_text width xs (replies ++ reply ∷ [])) next_place
      ∙ text_joins width (take place agents) replies before between (agent ∷ []) (reply ∷ []) replied
      ∙ ap (λ t. reply_text width (take place agents) replies ++ t) (append-nil (reply_line width agent reply))

  pub lines_more : (a b c : Option (List ℕ)) (h i j : List ℕ) → Passes a b h i (reply_text width (take place agents) replies) → Passes b c i j (reply_line width agent reply) →
      Passes a c h j (reply_text width (take (place + 1) agents) (replies ++ reply ∷ []))
  lines_more a b c h i j far this = subst (Passes a c h j) (sym text_more) (passes_trans a b c h i j (reply_text width (take place agents) replies) (reply_line width agent reply) far this)

  all_agents : take (place + 1) agents ++ drop (place + 1) agents ≡ agents
  all_agents = take-append-drop (place + 1) agents

  -- where its reply isn't written as a whole, a prefix of all replies is written
  pub lines_fail : (a b c : Option (List ℕ)) (h i : List ℕ) → Passes a b h i (reply_text width (take place agents) replies) → WritesPrefix b c (i ++ reply_line width agent reply) → IsProgress after → IsInOrder after → All (λ x. x < length after.numbers) agents →
      (all : List Reply) × (last : Progress) × AreReplies before agents all last × WritesPrefix a c (h ++ reply_text width agents all)
  lines_fail a b c h i far this progress order low =
      let asked = take (place + 1) agents in
      let others = drop (place + 1) agents in
      let (more, last, are) = all_answered others after progress order (All-later (λ x. x < length after.numbers) asked others (subst (All (λ x. x < length after.numbers)) (sym all_agents) low)) in
      let all = (replies ++ reply ∷ []) ++ more in
      let joined : AreReplies before (asked ++ others) all last = replies_join asked (replies ++ reply ∷ []) before after last others more replied_more are in
      let text : reply_text width (asked ++ others) all ≡ (reply_text width (take place agents) replies ++ reply_line width agent reply) ++ reply_text width others more =
      text_joins width asked (replies ++ reply ∷ []) before after others more replied_more ∙ ap (λ t. t ++ reply_text width others more) text_more in
      let prefix = prefix_held a c h (reply_text width (take place agents) replies ++ reply_line width agent reply) (reply_text width others more)
      (prefix_after a b c h i (reply_text width (take place agents) replies) (reply_line width agent reply) far this) in
      (all, last, subst (λ xs. AreReplies before xs all last) all_agents joined, subst (λ t. WritesPrefix a c (h ++ t)) (sym text ∙ ap (λ xs. reply_text width xs all) all_agents) prefix)

pub every_agent_is_answered : EveryAgentIsAnswered
every_agent_is_answered progress agent of_valid within = answered progress agent (of_valid_progress progress of_valid).0 within

-- all visits of a plan's agents are one list
same_visits : (plan : List (List ℕ)) (a b : List (List Visit)) → AreVisitsOfAll plan a → AreVisitsOfAll plan b → a ≡ b
same_visits plan a b of_a of_b = same_places a b (λ n. ⊎_elim
    (λ (within : n < length plan).
    let (path, path_is) = slice_get_inside plan n within in
    let (x, x_is) = slice_get_inside a n (let count = of_a.count in omega arith) in
    let (y, y_is) = slice_get_inside b n (let count = of_b.count in omega arith) in
    x_is ∙ ap Some (visits_are_one path x y (of_a.each n path x path_is x_is) (of_b.each n path y path_is y_is)) ∙ sym y_is)
    (λ (past : length plan ≤ n). slice_get_past a n (let count = of_a.count in omega arith) ∙ sym (slice_get_past b n (let count = of_b.count in omega arith)))
    (cases_lt n (length plan)))

-- and so are the replies
same_replies : (agents : List ℕ) (a b : List Reply) (before after other : Progress) → AreReplies before agents a after → AreReplies before agents b other → a ≡ b
same_replies [] [] [] before after other are_a are_b = refl
same_replies [] (x ∷ xs) b before after other none are_b = absurd none
same_replies [] [] (y ∷ ys) before after other are_a none = absurd none
same_replies (agent ∷ agents) [] b before after other none are_b = absurd none
same_replies (agent ∷ agents) (x ∷ xs) [] before after other are_a none = absurd none
same_replies (agent ∷ agents) (x ∷ xs) (y ∷ ys) before after other (mid_a, first_a, rest_a) (mid_b, first_b, rest_b) =
    let (head, mid) = replies_are_one before agent x y mid_a mid_b first_a first_b in
    ap (λ z. z ∷ xs) head ∙ ap (λ zs. y ∷ zs) (same_replies agents xs ys mid_a after other rest_a (subst (λ p. AreReplies p agents ys other) (sym mid) rest_b))

pub reply_texts_are_one : ReplyTextsAreOne
reply_texts_are_one width plan agents a b of_a of_b =
    let visits = same_visits plan of_a.visits of_b.visits of_a.are_visits of_b.are_visits in
    let same = same_replies agents of_a.replies of_b.replies (beginning of_a.visits) of_a.after of_b.after of_a.replied
    (subst (λ vs. AreReplies (beginning vs) agents of_b.replies of_b.after) (sym visits) of_b.replied) in
    of_a.spelled ∙ ap (reply_text width agents) same ∙ sym of_b.spelled
