-- What stays so whoever asks: the order in which cells are visited, and that agents are apart.
use Rattle.std.proofs.Common.{◌≡◌, ◌≢◌, ◌⊎◌, ℕ, zero, suc, ◌+◌, ◌-◌, replicate, ◌<◌, ◌≤◌, ◌==◌, if◌then◌else◌, List, [], ◌∷◌, ◌++◌, Some, length, map, take, option_map, slice_get, slice_set, refl, sym, ap, subst, ◌∙◌, inl, inr, ⊎_elim, arith, append_assoc, append-nil}
use Rattle.std.proofs.lemmas.Grind.{common_steps}
use Rattle.std.proofs.lemmas.Bool.{cases_eq, cases_lt}
use Rattle.std.proofs.lemmas.Option.{same_Some, slice_get_within, slice_get-map}
use Rattle.mapf_model.proofs.ClaimLemmas.{slice_get_inside}
use Rattle.mapf_model.specs.Path.{at}
use Rattle.mapf_model.specs.Plan.{Instance, IsValid}
use Rattle.mapf_player.specs.declared.visit.Visit.{Visit}
use Rattle.mapf_player.specs.declared.reply.Reply.{Reply}
use Rattle.mapf_player.specs.declared.reply.Reply.TheVariants.{Go, Hold, Done}
use Rattle.mapf_player.specs.Visits.{AreVisitsOfAll, IsVisit}
use Rattle.mapf_player.specs.Dispatching.{Progress, IsProgress, IsIn, IsNext, IsLeft, IsBegun, IsAwaited, Advances, IsReply, AreReplies, IsReached, IsInOrder, beginning}
use Rattle.mapf_player.specs.DispatchLaws.{ProgressStaysInOrder, NoTwoAgentsMeet, NobodyEntersAnOccupiedCell, CellsAreAPrefix, RepliesAreOne, cells_entered}
use Rattle.mapf_model.proofs.PlaceLemmas.{slice_get-set_same, slice_get-set_other, length-slice_set, take-next}
use Rattle.mapf_player.proofs.VisitLemmas.{first_visit, one_visit, path_of}

-- the progress with this number for the agent
abbrev pub with_number : Progress → ℕ → ℕ → Progress
with_number progress agent number = record { visits = progress.visits; numbers = slice_set progress.numbers agent number }

module _ (before : Progress) (agent number : ℕ) (is : slice_get before.numbers agent ≡ Some number) where
  -- of the agents' numbers after one went on
  own_number : (k : ℕ) → slice_get (slice_set before.numbers agent (number + 1)) agent ≡ Some k → k ≡ number + 1
  own_number k is_k = same_Some k (number + 1) (sym is_k ∙ slice_get-set_same before.numbers agent (number + 1) (slice_get_within before.numbers agent number is))

  other_number : (other : ℕ) → other ≢ agent → slice_get (slice_set before.numbers agent (number + 1)) other ≡ slice_get before.numbers other
  other_number other differ = slice_get-set_other before.numbers agent other (number + 1) differ

  own_next : slice_get (slice_set before.numbers agent (number + 1)) agent ≡ Some (number + 1)
  own_next = slice_get-set_same before.numbers agent (number + 1) (slice_get_within before.numbers agent number is)

  -- what was left is left
  pub still_left : (other n : ℕ) → IsLeft before other n → IsLeft (with_number before agent (number + 1)) other n
  still_left other n (current, is_current, past) = ⊎_elim
      (λ (same : other ≡ agent).
      let at_agent : current ≡ number = same_Some current number (sym is_current ∙ subst (λ i. slice_get before.numbers i ≡ Some number) (sym same) is) in
      (number + 1, subst (λ i. slice_get (slice_set before.numbers agent (number + 1)) i ≡ Some (number + 1)) (sym same) own_next, omega arith))
      (λ (differ : other ≢ agent). (current, other_number other differ ∙ is_current, past))
      (cases_eq other agent)

  -- what is begun was begun, or is the next visit of the agent
  pub begun_before : (other n : ℕ) → IsBegun (with_number before agent (number + 1)) other n → ((other ≡ agent) × (n ≡ number + 1)) ⊎ IsBegun before other n
  begun_before other n (current, is_current, low) = ⊎_elim
      (λ (same : other ≡ agent).
      let here : current ≡ number + 1 = own_number current (subst (λ i. slice_get (slice_set before.numbers agent (number + 1)) i ≡ Some current) same is_current) in
      ⊎_elim
      (λ (past : number < n). let last : n ≡ number + 1 = omega arith in inl (same, last))
      (λ (earlier : n ≤ number). inr (number, subst (λ i. slice_get before.numbers i ≡ Some number) (sym same) is, earlier))
      (cases_lt number n))
      (λ (differ : other ≢ agent). inr (current, sym (other_number other differ) ∙ is_current, low))
      (cases_eq other agent)

-- a visit of the agent in which it is, and the next one, have its number
next_number : (before : Progress) (agent : ℕ) (visit : Visit) (number : ℕ) → slice_get before.numbers agent ≡ Some number → IsNext before agent visit → IsVisit before.visits agent (number + 1) visit
next_number before agent visit number is (n, is_n, visit_is) = subst (λ k. IsVisit before.visits agent (k + 1) visit) (same_Some n number (sym is_n ∙ is)) visit_is

-- going on keeps each agent in one of its visits
advanced_progress : (before after : Progress) (agent : ℕ) (visit : Visit) → IsProgress before → Advances before agent after → IsNext before agent visit → IsProgress after
advanced_progress before after agent visit progress (number, is, after_is) next = subst IsProgress (sym after_is) (record {
  count = length-slice_set before.numbers agent (number + 1) ∙ progress.count;
  each = λ other n is_n. ⊎_elim
      (λ (same : other ≡ agent).
      let here : n ≡ number + 1 = own_number before agent number is n (subst (λ i. slice_get (slice_set before.numbers agent (number + 1)) i ≡ Some n) same is_n) in
      (visit, subst (λ i. IsVisit before.visits i n visit) (sym same) (subst (λ k. IsVisit before.visits agent k visit) (sym here) (next_number before agent visit number is next))))
      (λ (differ : other ≢ agent). progress.each other n (sym (other_number before agent number is other differ) ∙ is_n))
      (cases_eq other agent);
})

-- where nobody is awaited, all earlier visits of the cell are left
none_awaited : (before : Progress) (agent : ℕ) (visit : Visit) → IsProgress before → ((other : ℕ) → IsAwaited before agent visit other → ⊥) →
    (other n : ℕ) (earlier : Visit) → other ≢ agent → IsVisit before.visits other n earlier → earlier.cell ≡ visit.cell → earlier.entry < visit.entry → IsLeft before other n
none_awaited before agent visit progress none other n earlier differ (own, own_is, earlier_is) cell entry =
    let (current, is) = slice_get_inside before.numbers other (let within = slice_get_within before.visits other own own_is in let count = progress.count in omega arith) in
    ⊎_elim
    (λ (past : n < current). (current, is, past))
    (λ (here : current ≤ n). absurd (none other (
      differ,
      n,
      earlier,
      (own, own_is, earlier_is),
      cell,
      entry,
      λ left.
          let same : left.0 ≡ current = same_Some left.0 current (sym left.1 ∙ is) in
          let past = left.2 in omega arith,
    )))
    (cases_lt n current)

-- going on keeps the order
advanced_order : (before after : Progress) (agent : ℕ) (visit : Visit) → IsProgress before → IsInOrder before → Advances before agent after → IsNext before agent visit → ((other : ℕ) → IsAwaited before agent visit other → ⊥) → IsInOrder after
advanced_order before after agent visit progress order (number, is, after_is) next none = subst IsInOrder (sym after_is) (λ a b m n later earlier differ later_is begun earlier_is cell entry.
    still_left before agent number is b n (⊎_elim
    (λ (last : (a ≡ agent) × (m ≡ number + 1)).
    let is_visit : IsVisit before.visits agent (number + 1) later = subst (λ k. IsVisit before.visits agent k later) last.1 (subst (λ i. IsVisit before.visits i m later) last.0 later_is) in
    let same : later ≡ visit = one_visit before.visits agent (number + 1) later visit is_visit (next_number before agent visit number is next) in
    none_awaited before agent visit progress none b n earlier (λ e. differ (last.0 ∙ sym e)) earlier_is (cell ∙ ap (λ (v : Visit). v.cell) same) (subst (λ (v : Visit). earlier.entry < v.entry) same entry))
    (λ (was : IsBegun before a m). order a b m n later earlier differ later_is was earlier_is cell entry)
    (begun_before before agent number is a m begun)))

pub kept_by_reply : (before after : Progress) (agent : ℕ) (reply : Reply) → IsReply before agent reply after → IsProgress before → IsInOrder before → (after.visits ≡ before.visits) × IsProgress after × IsInOrder after
kept_by_reply before after agent Done reply progress order = subst (λ (p : Progress). (p.visits ≡ before.visits) × IsProgress p × IsInOrder p) reply.0 (refl, progress, order)
kept_by_reply before after agent (Hold other) reply progress order = subst (λ (p : Progress). (p.visits ≡ before.visits) × IsProgress p × IsInOrder p) reply.0 (refl, progress, order)
kept_by_reply before after agent (Go cell) (advances, visit, next, cell_is, none) progress order =
    (ap (λ (p : Progress). p.visits) advances.2, advanced_progress before after agent visit progress advances next, advanced_order before after agent visit progress order advances next none)

pub kept_by_replies : (agents : List ℕ) (replies : List Reply) (before after : Progress) → AreReplies before agents replies after → IsProgress before → IsInOrder before → (after.visits ≡ before.visits) × IsProgress after × IsInOrder after
kept_by_replies [] [] before after same progress order = subst (λ (p : Progress). (p.visits ≡ before.visits) × IsProgress p × IsInOrder p) same (refl, progress, order)
kept_by_replies [] (reply ∷ replies) before after none progress order = absurd none
kept_by_replies (agent ∷ agents) [] before after none progress order = absurd none
kept_by_replies (agent ∷ agents) (reply ∷ replies) before after (between, first, rest) progress order =
    let one = kept_by_reply before between agent reply first progress order in
    let all = kept_by_replies agents replies between after rest one.1 one.2 in
    (all.0 ∙ one.0, all.1, all.2)

-- of the beginning
beginning_number : (visits : List (List Visit)) (agent number : ℕ) → slice_get (map (λ (own : List Visit). 0) visits) agent ≡ Some number → (number ≡ 0) × (own : List Visit) × (slice_get visits agent ≡ Some own)
beginning_number [] agent number is = absurd cc
beginning_number (own ∷ visits) zero number is = (sym (same_Some 0 number is), own, refl)
beginning_number (own ∷ visits) (suc agent) number is = beginning_number visits agent number is

pub length-beginning : (visits : List (List Visit)) → length {A = ℕ} (map (λ (own : List Visit). 0) visits) ≡ length visits
length-beginning [] = refl
length-beginning (own ∷ visits) = ap suc (length-beginning visits)

pub beginning_progress : (plan : List (List ℕ)) (visits : List (List Visit)) → AreVisitsOfAll plan visits → IsProgress (beginning visits)
beginning_progress plan visits all = record {
  count = length-beginning visits;
  each = λ agent number is.
      let (zero_is, own, own_is) = beginning_number visits agent number is in
      let (path, path_is, are) = path_of plan visits all agent own own_is in
      let (visit, visit_is, entry) = first_visit path own are in
      (visit, (own, own_is, subst (λ n. slice_get own n ≡ Some visit) (sym zero_is) visit_is));
}

pub beginning_order : (plan : List (List ℕ)) (visits : List (List Visit)) → AreVisitsOfAll plan visits → IsInOrder (beginning visits)
beginning_order plan visits all a b m n later earlier differ (own, own_is, later_is) (current, current_is, low) earlier_is cell entry =
    let (zero_is, other, other_is) = beginning_number visits a current current_is in
    let (path, path_is, are) = path_of plan visits all a own own_is in
    let (visit, visit_is, first) = first_visit path own are in
    let m_is : m ≡ 0 = omega arith in
    let same : later ≡ visit = same_Some later visit (sym (subst (λ k. slice_get own k ≡ Some later) m_is later_is) ∙ visit_is) in
    let late : later.entry ≡ 0 = ap (λ (v : Visit). v.entry) same ∙ first in
    absurd (omega arith)

pub progress_stays_in_order : ProgressStaysInOrder
progress_stays_in_order problem plan progress valid reached =
    let kept = kept_by_replies reached.agents reached.replies (beginning progress.visits) progress reached.replied (beginning_progress plan progress.visits reached.visits) (beginning_order plan progress.visits reached.visits) in
    (kept.1, kept.2)

-- where the order is kept, agents are apart
apart_in_order : (problem : Instance) (plan : List (List ℕ)) (progress : Progress) → IsValid problem plan → AreVisitsOfAll plan progress.visits → IsInOrder progress →
    (i j : ℕ) (a b : Visit) → i ≢ j → IsIn progress i a → IsIn progress j b → a.cell ≢ b.cell
apart_in_order problem plan progress valid visits order i j a b differ (m, m_is, (own, own_is, a_is)) (n, n_is, (other, other_is, b_is)) cell =
    let (p, p_is, p_visits) = path_of plan progress.visits visits i own own_is in
    let (q, q_is, q_visits) = path_of plan progress.visits visits j other other_is in
    let not_left : (agent number : ℕ) → slice_get progress.numbers agent ≡ Some number → IsLeft progress agent number → ⊥ = λ agent number is left.
    (let same : left.0 ≡ number = same_Some left.0 number (sym left.1 ∙ is) in let past = left.2 in omega arith) in
    ⊎_elim
    (λ (first : a.entry < b.entry). not_left i m m_is (order j i n m b a (λ e. differ (sym e)) (other, other_is, b_is) (n, n_is, omega arith) (own, own_is, a_is) cell first))
    (λ (rest : b.entry ≤ a.entry). ⊎_elim
    (λ (first : b.entry < a.entry). not_left j n n_is (order i j m n a b differ (own, own_is, a_is) (m, m_is, omega arith) (other, other_is, b_is) (sym cell) first))
    (λ (low : a.entry ≤ b.entry). let same : a.entry ≡ b.entry = omega arith in valid.apart i j a.entry p q differ p_is q_is
    (inl (sym (p_visits.entered m a a_is).1 ∙ cell ∙ (q_visits.entered n b b_is).1 ∙ ap (at q) (sym same))))
    (cases_lt b.entry a.entry))
    (cases_lt a.entry b.entry)

pub no_two_agents_meet : NoTwoAgentsMeet
no_two_agents_meet problem plan progress valid reached = apart_in_order problem plan progress valid reached.visits (progress_stays_in_order problem plan progress valid reached).1

pub nobody_enters_an_occupied_cell : NobodyEntersAnOccupiedCell
nobody_enters_an_occupied_cell problem plan before after agent cell valid reached (advances, next, next_is, cell_is, none) other visit differ visit_in same =
    let kept = progress_stays_in_order problem plan before valid reached in
    let later = kept_by_reply before after agent (Go cell) (advances, next, next_is, cell_is, none) kept.0 kept.1 in
    let number = advances.0 in let is = advances.1 in
    let moved : IsIn (with_number before agent (number + 1)) agent next = (number + 1, own_next before agent number is, next_number before agent next number is next_is) in
    let stays : IsIn (with_number before agent (number + 1)) other visit = (visit_in.0, other_number before agent number is other differ ∙ visit_in.1, visit_in.2) in
    apart_in_order problem plan after valid (subst (λ vs. AreVisitsOfAll plan vs) (sym later.0) reached.visits) later.2 agent other next visit (λ e. differ (sym e))
    (subst (λ p. IsIn p agent next) (sym advances.2) moved) (subst (λ p. IsIn p other visit) (sym advances.2) stays) (cell_is ∙ sym same)

-- the cells of the first visits
abbrev cells : List Visit → ℕ → List ℕ
cells own n = map (λ (visit : Visit). visit.cell) (take n own)

one_more_cell : (own : List Visit) (n : ℕ) (visit : Visit) → slice_get own n ≡ Some visit → cells own (suc n) ≡ cells own n ++ visit.cell ∷ []
one_more_cell own n visit is = ap (map (λ (v : Visit). v.cell)) (take-next own n visit is) ∙ map_last (take n own)
  where
    map_last : (xs : List Visit) → map (λ (v : Visit). v.cell) (xs ++ visit ∷ []) ≡ map (λ (v : Visit). v.cell) xs ++ visit.cell ∷ []
    map_last [] = refl
    map_last (x ∷ xs) = ap (λ ys. x.cell ∷ ys) (map_last xs)

module _ (agent : ℕ) (own : List Visit) where
  cells_by_replies : (agents : List ℕ) (replies : List Reply) (before after : Progress) → AreReplies before agents replies after → slice_get before.visits agent ≡ Some own →
      (n k : ℕ) → slice_get before.numbers agent ≡ Some n → slice_get after.numbers agent ≡ Some k → cells own (suc n) ++ cells_entered agent agents replies ≡ cells own (suc k)
  cells_by_replies [] [] before after same own_is n k n_is k_is =
      let e : n ≡ k = same_Some n k (sym n_is ∙ subst (λ (p : Progress). slice_get p.numbers agent ≡ Some k) (sym same) k_is) in
      append-nil (cells own (suc n)) ∙ ap (λ i. cells own (suc i)) e
  cells_by_replies [] (reply ∷ replies) before after none own_is n k n_is k_is = absurd none
  cells_by_replies (asked ∷ agents) [] before after none own_is n k n_is k_is = absurd none
  cells_by_replies (asked ∷ agents) (Done ∷ replies) before after (between, reply, rest) own_is n k n_is k_is =
      cells_by_replies agents replies between after rest (subst (λ (p : Progress). slice_get p.visits agent ≡ Some own) reply.0 own_is) n k (subst (λ (p : Progress). slice_get p.numbers agent ≡ Some n) reply.0 n_is) k_is
  cells_by_replies (asked ∷ agents) (Hold other ∷ replies) before after (between, reply, rest) own_is n k n_is k_is =
      cells_by_replies agents replies between after rest (subst (λ (p : Progress). slice_get p.visits agent ≡ Some own) reply.0 own_is) n k (subst (λ (p : Progress). slice_get p.numbers agent ≡ Some n) reply.0 n_is) k_is
  cells_by_replies (asked ∷ agents) (Go cell ∷ replies) before after (between, (advances, visit, next, cell_is, none), rest) own_is n k n_is k_is =
      let visits_same : between.visits ≡ before.visits = ap (λ (p : Progress). p.visits) advances.2 in
      let own_between : slice_get between.visits agent ≡ Some own = ap (λ (vs : List (List Visit)). slice_get vs agent) visits_same ∙ own_is in
      let numbers_same : between.numbers ≡ slice_set before.numbers asked (advances.0 + 1) = ap (λ (p : Progress). p.numbers) advances.2 in
      ⊎_elim
      (λ (same : asked ≡ agent).
      let was : advances.0 ≡ n = same_Some advances.0 n (sym advances.1 ∙ ap (λ i. slice_get before.numbers i) same ∙ n_is) in
      let now : slice_get between.numbers agent ≡ Some (suc n) = ap (λ (ns : List ℕ). slice_get ns agent) numbers_same ∙ ap (λ i. slice_get (slice_set before.numbers asked (advances.0 + 1)) i) (sym same) ∙ own_next before asked advances.0 advances.1 ∙ ap Some (let e : advances.0 + 1 ≡ suc n = omega arith in e) in
      let visit_is : slice_get own (suc n) ≡ Some visit = own_visit before asked visit advances.0 advances.1 next same n was own_is in
      let later = cells_by_replies agents replies between after rest own_between (suc n) k now k_is in
      let here : (if asked == agent then cell ∷ [] else []) ≡ visit.cell ∷ [] = grind (arith, same, cell_is) in
      ap (λ xs. cells own (suc n) ++ (xs ++ cells_entered agent agents replies)) here ∙ sym (append_assoc (cells own (suc n)) (visit.cell ∷ []) (cells_entered agent agents replies))
      ∙ ap (λ xs. xs ++ cells_entered agent agents replies) (sym (one_more_cell own (suc n) visit visit_is)) ∙ later)
      (λ (differ : asked ≢ agent).
      let now : slice_get between.numbers agent ≡ Some n = ap (λ (ns : List ℕ). slice_get ns agent) numbers_same ∙ other_number before asked advances.0 advances.1 agent (λ e. differ (sym e)) ∙ n_is in
      let later = cells_by_replies agents replies between after rest own_between n k now k_is in
      let here : (if asked == agent then cell ∷ [] else []) ≡ [] = grind (arith, differ) in
      ap (λ xs. cells own (suc n) ++ (xs ++ cells_entered agent agents replies)) here ∙ later)
      (cases_eq asked agent)
    where
      own_visit : (before : Progress) (asked : ℕ) (visit : Visit) (number : ℕ) → slice_get before.numbers asked ≡ Some number → IsNext before asked visit → asked ≡ agent → (n : ℕ) → number ≡ n → slice_get before.visits agent ≡ Some own → slice_get own (suc n) ≡ Some visit
      own_visit before asked visit number is next same n was own_is =
          let (list, list_is, visit_is) = next_number before asked visit number is next in
          let e : list ≡ own = same_Some list own (sym list_is ∙ ap (λ i. slice_get before.visits i) same ∙ own_is) in
          let place : number + 1 ≡ suc n = omega arith in
          subst (λ i. slice_get own i ≡ Some visit) place (subst (λ (o : List Visit). slice_get o (number + 1) ≡ Some visit) e visit_is)

pub cells_are_a_prefix : CellsAreAPrefix
cells_are_a_prefix visits agents replies progress replied agent own first number own_is first_is number_is =
    let zero_is : slice_get (map (λ (o : List Visit). 0) visits) agent ≡ Some 0 = slice_get-map (λ (o : List Visit). 0) visits agent ∙ ap (option_map (λ (o : List Visit). 0)) own_is in
    let all = cells_by_replies agent own agents replies (beginning visits) progress replied own_is 0 number zero_is number_is in
    let one : cells own (suc 0) ≡ first.cell ∷ [] = one_more_cell own 0 first first_is in
    let count : number + 1 ≡ suc number = omega arith in
    ap (λ xs. xs ++ cells_entered agent agents replies) (sym one) ∙ all ∙ ap (cells own) (sym count)

-- an agent has one next visit
pub one_next : (before : Progress) (agent : ℕ) (a b : Visit) → IsNext before agent a → IsNext before agent b → a ≡ b
one_next before agent a b (m, m_is, a_is) b_next = one_visit before.visits agent (m + 1) a b a_is (next_number before agent b m m_is b_next)

one_change : (before after other : Progress) (agent : ℕ) → Advances before agent after → Advances before agent other → after ≡ other
one_change before after other agent (m, m_is, after_is) (n, n_is, other_is) = after_is ∙ ap (λ k. with_number before agent (k + 1)) (same_Some m n (sym m_is ∙ n_is)) ∙ sym other_is

pub replies_are_one : RepliesAreOne
replies_are_one before agent Done Done after other a b = (refl, sym a.0 ∙ b.0)
replies_are_one before agent Done (Hold j) after other a b = absurd (a.3 b.1 b.2)
replies_are_one before agent Done (Go cell) after other a b = absurd (a.3 b.1 b.2)
replies_are_one before agent (Hold i) Done after other a b = absurd (b.3 a.1 a.2)
replies_are_one before agent (Go cell) Done after other a b = absurd (b.3 a.1 a.2)
replies_are_one before agent (Hold i) (Hold j) after other a b =
    let next = one_next before agent a.1 b.1 a.2 b.2 in
    let low = a.4 j (subst (λ v. IsAwaited before agent v j) (sym next) b.3) in
    let high = b.4 i (subst (λ v. IsAwaited before agent v i) next a.3) in
    let same : i ≡ j = omega arith in
    (ap Hold same, sym a.0 ∙ b.0)
replies_are_one before agent (Hold i) (Go cell) after other a b = absurd (b.4 i (subst (λ v. IsAwaited before agent v i) (one_next before agent a.1 b.1 a.2 b.2) a.3))
replies_are_one before agent (Go cell) (Hold j) after other a b = absurd (a.4 j (subst (λ v. IsAwaited before agent v j) (one_next before agent b.1 a.1 b.2 a.2) b.3))
replies_are_one before agent (Go c) (Go d) after other a b =
    (ap Go (sym a.3 ∙ ap (λ (v : Visit). v.cell) (one_next before agent a.1 b.1 a.2 b.2) ∙ b.3), one_change before after other agent a.0 b.0)

-- replies to agents that asked one after another, and to others after them
pub replies_join : (agents : List ℕ) (replies : List Reply) (before between after : Progress) (others : List ℕ) (more : List Reply) → AreReplies before agents replies between → AreReplies between others more after → AreReplies before (agents ++ others) (replies ++ more) after
replies_join [] [] before between after others more same are = subst (λ p. AreReplies p others more after) (sym same) are
replies_join [] (reply ∷ replies) before between after others more none are = absurd none
replies_join (agent ∷ agents) [] before between after others more none are = absurd none
replies_join (agent ∷ agents) (reply ∷ replies) before between after others more (next, first, rest) are = (next, first, replies_join agents replies next between after others more rest are)

-- what is reached after a reply
pub reached_after : (problem : Instance) (plan : List (List ℕ)) (before after : Progress) (agent : ℕ) (reply : Reply) → IsValid problem plan → IsReached plan before → IsReply before agent reply after → IsReached plan after
reached_after problem plan before after agent reply valid reached is =
    let kept = progress_stays_in_order problem plan before valid reached in
    let same = (kept_by_reply before after agent reply is kept.0 kept.1).0 in
    record {
      visits = subst (λ vs. AreVisitsOfAll plan vs) (sym same) reached.visits;
      agents = reached.agents ++ agent ∷ [];
      replies = reached.replies ++ reply ∷ [];
      replied = subst (λ vs. AreReplies (beginning vs) (reached.agents ++ agent ∷ []) (reached.replies ++ reply ∷ []) after) (sym same)
          (replies_join reached.agents reached.replies (beginning before.visits) before after (agent ∷ []) (reply ∷ []) reached.replied (after, is, refl));
    }

-- nobody asked yet
pub reached_first : (plan : List (List ℕ)) (visits : List (List Visit)) → AreVisitsOfAll plan visits → IsReached plan (beginning visits)
reached_first plan visits all = record { visits = all; agents = []; replies = []; replied = refl }

-- as many zeros as agents
pub zeros : (visits : List (List Visit)) (n m : ℕ) (old new : List ℕ) → old ≡ [] → m ≡ 0 → n ≡ length visits → new ≡ take n old ++ replicate {A = ℕ} (n - m) 0 → new ≡ map (λ (own : List Visit). 0) visits
zeros visits n m old new none zero_is count is = is ∙ ap (λ (xs : List ℕ). take n xs ++ replicate {A = ℕ} (n - m) 0) none ∙ ap (λ k. take {A = ℕ} n [] ++ replicate {A = ℕ} (n - k) 0) zero_is ∙ start
    ∙ ap (λ k. replicate {A = ℕ} k 0) (whole ∙ count) ∙ each visits
  where
    start : take {A = ℕ} n [] ++ replicate {A = ℕ} (n - 0) 0 ≡ replicate {A = ℕ} (n - 0) 0
    start = grind (arith, common_steps)

    whole : n - 0 ≡ n
    whole = omega arith

    each : (vs : List (List Visit)) → replicate {A = ℕ} (length vs) 0 ≡ map (λ (own : List Visit). 0) vs
    each [] = refl
    each (v ∷ vs) = ap (λ xs. 0 ∷ xs) (each vs)
