-- Texts of events: what is read is spelled so, and what is spelled so is read.
use Rattle.std.proofs.Common.{◌≡◌, ◌≢◌, ◌⊎◌, inl, inr, ℕ, ◌<◌, ◌^◌, ◌==◌, Bool, true, false, not, List, [], ◌∷◌, ◌++◌, Option, Some, Ok, All, length, codes, refl, sym, ap, subst, ◌∙◌, get_or, arith, append_assoc, append-nil, length-append, suc, ◌+◌, Result, Err, IfErr, IsErrAnd}
use Rattle.std.specs.Fmt.{decimal}
use Rattle.std.specs.Result.{IsOk}
use Rattle.std.specs.Str.Parse.{AllDigits}
use Rattle.mapf_fields.specs.declared.fault.LineFault.{LineFault}
use Rattle.mapf_fields.specs.Ends.{IsCut, lacks_end}
use Rattle.mapf_fields.specs.Numbers.{read_whole, below}
use Rattle.mapf_fields.proofs.Fields.{whole_takes, whole_again, whole_spelled, below_takes, below_again, below_refused}
use Rattle.mapf_fields.proofs.Binds.{same_ok}
use Rattle.mapf_fields.proofs.Cuts.{has_end}
use Rattle.mapf_fields.proofs.Plain.{digits_lack, same_front}
use Rattle.std.proofs.lemmas.Fmt.{decimal_is_IsNumeral}
use Rattle.std.proofs.lemmas.Grind.{common_steps}
use Rattle.std.proofs.lemmas.Option.{get_or_from_slice_get, same_Some}
use Rattle.mapf_model.proofs.PlaceLemmas.{slice_get-here}
use Rattle.mapf_player.specs.Events.{event_line, event_lines, asked_lines, event_text, HasRestAt, HasEventFault, GivesNoAgent, SpellsOneListOfEvents}
use Rattle.mapf_player.specs.declared.events.EventFault.{EventFault}
use Rattle.mapf_player.specs.declared.events.EventFault.TheVariants.{E1, E2, E3, E4, Memory}

-- the first line of a text that begins with a number's line is that line
pub event_cut : (n : ℕ) (bs more line rest : List ℕ) → n < 2 ^ 64 → bs ≡ event_line n ++ more → IsCut bs line rest → (line ≡ decimal n) × (rest ≡ more)
event_cut n bs more line rest fits spelled found =
    same_front line (decimal n) rest more found.whole (digits_lack (decimal n) ((decimal_is_IsNumeral n fits).0.1)) (sym found.same ∙ spelled ∙ append_assoc (decimal n) (10 ∷ []) more)

pub end_cut : (bs more line rest : List ℕ) → bs ≡ codes "end\n" ++ more → IsCut bs line rest → (line ≡ codes "end") × (rest ≡ more)
end_cut bs more line rest spelled found = same_front line (codes "end") rest more found.whole refl (sym found.same ∙ spelled)

-- no number is the last line
pub no_number : (n : ℕ) → n < 2 ^ 64 → decimal n ≢ codes "end"
no_number n fits same = let digits = subst (AllDigits 10) same ((decimal_is_IsNumeral n fits).0.1) in absurd (let first = digits.0 in omega arith)

-- one agent more asked
pub asked_more : (agents : List ℕ) (agent : ℕ) → asked_lines (agents ++ agent ∷ []) ≡ asked_lines agents ++ event_line agent
asked_more [] agent = append-nil (event_line agent)
asked_more (first ∷ agents) agent = ap (λ bs. event_line first ++ bs) (asked_more agents agent) ∙ sym (append_assoc (event_line first) (asked_lines agents) (event_line agent))

-- all lines are those of the agents that asked, and the last line
pub lines_end : (agents : List ℕ) → event_lines agents ≡ asked_lines agents ++ codes "end\n"
lines_end [] = refl
lines_end (agent ∷ agents) = ap (λ bs. event_line agent ++ bs) (lines_end agents) ∙ sym (append_assoc (event_line agent) (asked_lines agents) (codes "end\n"))

-- after the last line all was read
pub finish_read : (bytes rest line after : List ℕ) (items : List ℕ) → bytes ≡ asked_lines items ++ rest → IsCut rest line after → line ≡ codes "end" → bytes ≡ event_lines items ++ after
finish_read bytes rest line after items read found is_end =
    read ∙ ap (λ bs. asked_lines items ++ bs) (found.same ∙ ap (λ l. l ++ (10 ∷ after)) is_end)
    ∙ sym (append_assoc (asked_lines items) (codes "end\n") after) ∙ ap (λ bs. bs ++ after) (sym (lines_end items))

module _ (agents : ℕ) (few : agents < 2 ^ 32) (items rest line after events more others : List ℕ) (low : All (λ agent. agent < agents) events) (split : events ≡ items ++ others) (still : rest ≡ event_lines others ++ more) (found : IsCut rest line after) where
  head_low : (agent : ℕ) (tail : List ℕ) → others ≡ agent ∷ tail → agent < agents
  head_low agent tail is =
      let all : All (λ a. a < agents) (items ++ (agent ∷ tail)) = subst (All (λ a. a < agents)) (split ∙ ap (λ os. items ++ os) is) low in
      let here : get_or (items ++ (agent ∷ tail)) (length items) 0 ≡ agent = get_or_from_slice_get (items ++ (agent ∷ tail)) (length items) agent 0 (slice_get-here items tail agent) in
      let inside : length items < length (items ++ (agent ∷ tail)) = omega (arith, length-append items (agent ∷ tail)) in
      subst (λ a. a < agents) here (all (length items) 0 inside)

  -- the line is the last one, or that of an agent
  pub agent_or_end : (line ≡ codes "end") ⊎ ((agent : ℕ) × (agent < agents) × (line ≡ decimal agent))
  agent_or_end = by others refl
    where
      by : (os : List ℕ) → others ≡ os → (line ≡ codes "end") ⊎ ((agent : ℕ) × (agent < agents) × (line ≡ decimal agent))
      by [] is = inl (end_cut rest more line after (still ∙ ap (λ os. event_lines os ++ more) is) found).0
      by (agent ∷ tail) is =
          let small = head_low agent tail is in
          let fits : agent < 2 ^ 64 = omega arith in
          inr (agent, small, (event_cut agent rest (event_lines tail ++ more) line after fits (still ∙ ap (λ os. event_lines os ++ more) is ∙ append_assoc (event_line agent) (event_lines tail) more) found).0)

  -- where the line is the last one, all agents asked
  pub finish_left : line ≡ codes "end" → (items ≡ events) × (after ≡ more)
  finish_left is_end = by others refl
    where
      by : (os : List ℕ) → others ≡ os → (items ≡ events) × (after ≡ more)
      by [] is =
          let (line_is, after_is) = end_cut rest more line after (still ∙ ap (λ os. event_lines os ++ more) is) found in
          (sym (split ∙ ap (λ os. items ++ os) is ∙ append-nil items), after_is)
      by (agent ∷ tail) is =
          let small = head_low agent tail is in
          let fits : agent < 2 ^ 64 = omega arith in
          let (line_is, after_is) = event_cut agent rest (event_lines tail ++ more) line after fits (still ∙ ap (λ os. event_lines os ++ more) is ∙ append_assoc (event_line agent) (event_lines tail) more) found in
          absurd (no_number agent fits (sym line_is ∙ is_end))

  -- where it is a number's, its agent asked
  pub step_left : (asked : ℕ) → line ≡ decimal asked → asked < agents → ((agent : ℕ) → agent < agents → line ≡ decimal agent → asked ≡ agent) →
      (tail : List ℕ) × (events ≡ (items ++ asked ∷ []) ++ tail) × (after ≡ event_lines tail ++ more)
  step_left asked line_is small one = by others refl
    where
      by : (os : List ℕ) → others ≡ os → (tail : List ℕ) × (events ≡ (items ++ asked ∷ []) ++ tail) × (after ≡ event_lines tail ++ more)
      by [] is =
          let (is_end, after_is) = end_cut rest more line after (still ∙ ap (λ os. event_lines os ++ more) is) found in
          let fits : asked < 2 ^ 64 = omega arith in
          absurd (no_number asked fits (sym line_is ∙ is_end))
      by (agent ∷ tail) is =
          let low_agent = head_low agent tail is in
          let fits : agent < 2 ^ 64 = omega arith in
          let (is_agent, after_is) = event_cut agent rest (event_lines tail ++ more) line after fits (still ∙ ap (λ os. event_lines os ++ more) is ∙ append_assoc (event_line agent) (event_lines tail) more) found in
          (tail, split ∙ ap (λ os. items ++ os) (is ∙ ap (λ a. a ∷ tail) (sym (one agent low_agent is_agent))) ∙ sym (append_assoc items (asked ∷ []) tail), after_is)

not_lacking : (bs : List ℕ) → (lacks_end bs ≡ true → ⊥) → lacks_end bs ≡ false
not_lacking bs has = by (lacks_end bs) refl
  where
    by : (b : Bool) → lacks_end bs ≡ b → lacks_end bs ≡ false
    by true is = absurd (has is)
    by false is = is

-- bytes that begin with a line don't lack its end
pub has_line : (bs line after : List ℕ) → bs ≡ line ++ (10 ∷ after) → lacks_end bs ≡ false
has_line bs line after is = not_lacking bs (λ lacks. has_end line after (ap lacks_end (sym is) ∙ lacks))

pub lines_end_somewhere : (bs others more : List ℕ) → bs ≡ event_lines others ++ more → lacks_end bs ≡ false
lines_end_somewhere bs [] more is = has_line bs (codes "end") more is
lines_end_somewhere bs (agent ∷ tail) more is =
    has_line bs (decimal agent) (event_lines tail ++ more) (is ∙ append_assoc (event_line agent) (event_lines tail) more ∙ append_assoc (decimal agent) (10 ∷ []) (event_lines tail ++ more))

-- one line more was read
pub step_read : (bytes rest line after : List ℕ) (items : List ℕ) (asked : ℕ) → bytes ≡ asked_lines items ++ rest → IsCut rest line after → line ≡ decimal asked → bytes ≡ asked_lines (items ++ asked ∷ []) ++ after
step_read bytes rest line after items asked read found line_is =
    read ∙ ap (λ bs. asked_lines items ++ bs) (found.same ∙ ap (λ l. l ++ (10 ∷ after)) line_is ∙ sym (append_assoc (decimal asked) (10 ∷ []) after))
    ∙ sym (append_assoc (asked_lines items) (event_line asked) after) ∙ ap (λ bs. bs ++ after) (sym (asked_more items asked))

-- a line takes a byte at least
pub shorter : (rest line after : List ℕ) → IsCut rest line after → length after < length rest
shorter rest line after found =
    let size = ap length found.same in
    let parts = length-append line (10 ∷ after) in
    omega arith

-- a line of digits below the bound is an agent
pub agent_takes : (line : List ℕ) (bound n : ℕ) (read : Option ℕ) → read_whole line ≡ Ok read → below bound read ≡ Ok n → (line ≡ decimal n) × (n < bound)
agent_takes line bound n read whole_is small =
    let (same, low) = below_takes bound read n small in
    ((whole_takes line n (whole_is ∙ ap Ok same)).0, low)

pub agent_again : (line : List ℕ) (bound n : ℕ) → bound < 2 ^ 32 → n < bound → line ≡ decimal n → (read_whole line ≡ Ok (Some n)) × (below bound (Some n) ≡ Ok n)
agent_again line bound n few low is = let fits : n < 2 ^ 64 = omega arith in (ap read_whole is ∙ whole_again n fits, below_again bound n low)

-- the first line is the title, and after it come the agents' lines and nothing more
pub text_read : (bytes line rest after : List ℕ) (agents : List ℕ) → IsCut bytes line rest → line ≡ codes "mapf-events 1" → rest ≡ event_lines agents ++ after → after ≡ [] → bytes ≡ event_text agents
text_read bytes line rest after agents found title read none =
    found.same ∙ ap (λ l. l ++ (10 ∷ rest)) title ∙ ap (λ bs. codes "mapf-events 1\n" ++ bs) (read ∙ ap (λ bs. event_lines agents ++ bs) none ∙ append-nil (event_lines agents))

pub text_again : (bytes line rest : List ℕ) (agents : List ℕ) → IsCut bytes line rest → bytes ≡ event_text agents → rest ≡ event_lines agents ++ []
text_again bytes line rest agents found spelled =
    (same_front line (codes "mapf-events 1") rest (event_lines agents) found.whole refl (sym found.same ∙ spelled)).1 ∙ sym (append-nil (event_lines agents))

pub nothing_left : (xs : List ℕ) → true ≡ (length xs == 0) → xs ≡ []
nothing_left [] e = refl
nothing_left (x ∷ xs) e = grind (arith, common_steps)

pub not_other : (same : Bool) → false ≡ not same → true ≡ same
not_other true e = refl
not_other false e = cc

one_number : (m n : ℕ) → m < 2 ^ 64 → n < 2 ^ 64 → decimal m ≡ decimal n → m ≡ n
one_number m n m_fits n_fits same =
    let one = whole_again m m_fits in
    let two = whole_again n n_fits in
    let read : Ok (Some m) ≡ Ok (Some n) = sym one ∙ ap read_whole same ∙ two in
    same_Some m n (same_ok (Some m) (Some n) read)

digits_lacking : (n : ℕ) → n < 2 ^ 64 → lacks_end (decimal n) ≡ true
digits_lacking n fits = digits_lack (decimal n) ((decimal_is_IsNumeral n fits).0.1)

first_low : (count agent : ℕ) (agents : List ℕ) → All (λ a. a < count) (agent ∷ agents) → agent < count
first_low count agent agents low = low 0 0 (omega arith)

rest_low : (count agent : ℕ) (agents : List ℕ) → All (λ a. a < count) (agent ∷ agents) → All (λ a. a < count) agents
rest_low count agent agents low = λ k d within. low (suc k) d (omega arith)

one_list : (count : ℕ) → count < 2 ^ 32 → (a b : List ℕ) → All (λ n. n < count) a → All (λ n. n < count) b → event_lines a ≡ event_lines b → a ≡ b
one_list count few [] [] low_a low_b same = refl
one_list count few [] (y ∷ ys) low_a low_b same =
    let small = first_low count y ys low_b in
    let fits : y < 2 ^ 64 = omega arith in
    absurd (no_number y fits (sym (same_front (codes "end") (decimal y) [] (event_lines ys) refl (digits_lacking y fits) (same ∙ append_assoc (decimal y) (10 ∷ []) (event_lines ys))).0))
one_list count few (x ∷ xs) [] low_a low_b same =
    let small = first_low count x xs low_a in
    let fits : x < 2 ^ 64 = omega arith in
    absurd (no_number x fits (same_front (decimal x) (codes "end") (event_lines xs) [] (digits_lacking x fits) refl (sym (append_assoc (decimal x) (10 ∷ []) (event_lines xs)) ∙ same)).0)
one_list count few (x ∷ xs) (y ∷ ys) low_a low_b same =
    let small_x = first_low count x xs low_a in
    let small_y = first_low count y ys low_b in
    let x_fits : x < 2 ^ 64 = omega arith in
    let y_fits : y < 2 ^ 64 = omega arith in
    let (front, rest) = same_front (decimal x) (decimal y) (event_lines xs) (event_lines ys) (digits_lacking x x_fits) (digits_lacking y y_fits)
    (sym (append_assoc (decimal x) (10 ∷ []) (event_lines xs)) ∙ same ∙ append_assoc (decimal y) (10 ∷ []) (event_lines ys)) in
    let tail = one_list count few xs ys (rest_low count x xs low_a) (rest_low count y ys low_b) rest in
    let head = one_number x y x_fits y_fits front in
    ap (λ n. n ∷ xs) head ∙ ap (λ ns. y ∷ ns) tail

pub events_are_spelled_apart : SpellsOneListOfEvents
events_are_spelled_apart bytes count a b few spells_a spells_b =
    one_list count few a b spells_a.in_range spells_b.in_range (same_front (codes "mapf-events 1") (codes "mapf-events 1") (event_lines a) (event_lines b) refl refl (sym spells_a.spelled ∙ spells_b.spelled)).1

-- a result isn't both Ok and Err
pub no_fault : {T E : Type 0} (r : Result T E) (fault : E) → r ≡ Err fault → IsOk r → ⊥
no_fault (Ok x) fault is ok = absurd cc
no_fault (Err e) fault is ok = absurd cc

pub told_other : (same : Bool) → true ≡ not same → false ≡ same
told_other true e = cc
told_other false e = refl

pub something_left : (xs : List ℕ) → xs ≡ [] → false ≡ (length xs == 0) → ⊥
something_left [] none e = absurd cc
something_left (x ∷ xs) none e = absurd cc

pub title_of : (bytes line rest : List ℕ) (agents : List ℕ) → IsCut bytes line rest → bytes ≡ event_text agents → line ≡ codes "mapf-events 1"
title_of bytes line rest agents found spelled = (same_front line (codes "mapf-events 1") rest (event_lines agents) found.whole refl (sym found.same ∙ spelled)).0

pub text_has_line : (bytes : List ℕ) (agents : List ℕ) → bytes ≡ event_text agents → lacks_end bytes ≡ false
text_has_line bytes agents spelled = has_line bytes (codes "mapf-events 1") (event_lines agents) spelled

-- what holds of an error that a call passes on holds of the result
pub fault_passed : {T E : Type 0} (P : E → Type 0) (r : Result T E) (fault : E) → IsErrAnd r (λ given. given ≡ fault) → P fault → IfErr r P
fault_passed P (Ok x) fault is says = tt
fault_passed P (Err given) fault is says = subst P (sym is) says

-- what is left to read comes after the title and the agents that were read
pub rest_at : (bytes rest items : List ℕ) (count number : ℕ) → All (λ agent. agent < count) items → bytes ≡ asked_lines items ++ rest → number ≡ length items + 2 → HasRestAt (codes "mapf-events 1\n" ++ bytes) count number rest
rest_at bytes rest items count number low read is = record {
  agents = items;
  in_range = low;
  spelled = ap (λ bs. codes "mapf-events 1\n" ++ bs) read;
  number = omega (arith, is);
}

-- a line that lacks its end
pub end_fault : (bytes rest : List ℕ) (count number : ℕ) (fault : EventFault) → HasRestAt bytes count number rest → (fault ≡ E2 number) × (lacks_end rest ≡ true) → HasEventFault bytes count fault
end_fault bytes rest count number fault has (is, lacks) = subst (HasEventFault bytes count) (sym is) (inr (rest, has, lacks))

-- a line that isn't the last one and gives no agent
pub agent_fault : (bytes rest line after : List ℕ) (count number : ℕ) (fault : EventFault) → HasRestAt bytes count number rest → IsCut rest line after → line ≢ codes "end" → GivesNoAgent line count number fault → HasEventFault bytes count fault
agent_fault bytes rest line after count number (E1 at) has cut other (same, none) =
    inr (rest, subst (λ n. HasRestAt bytes count n rest) (sym same) has, record { line = line; after = after; cut = cut; no_end = other; no_number = none })
agent_fault bytes rest line after count number (E2 at) has cut other none = absurd none
agent_fault bytes rest line after count number (E3 at) has cut other (same, is_number, great) =
    (rest, subst (λ n. HasRestAt bytes count n rest) (sym same) has, record { line = line; after = after; cut = cut; is_number = is_number; great = great })
agent_fault bytes rest line after count number (E4 at) has cut other none = absurd none
agent_fault bytes rest line after count number Memory has cut other none = absurd none

-- a text that begins with the title
pub title_before : (bytes line rest : List ℕ) → IsCut bytes line rest → line ≡ codes "mapf-events 1" → bytes ≡ codes "mapf-events 1\n" ++ rest
title_before bytes line rest found title = found.same ∙ ap (λ l. l ++ (10 ∷ rest)) title

-- what follows the last line
pub more_fault : (bytes rest after items : List ℕ) (count number : ℕ) → bytes ≡ codes "mapf-events 1\n" ++ rest → All (λ agent. agent < count) items → rest ≡ event_lines items ++ after → number ≡ length items + 3 → after ≢ [] → HasEventFault bytes count (E4 number)
more_fault bytes rest after items count number title low read is some =
    let lines = read ∙ ap (λ bs. bs ++ after) (lines_end items) ∙ append_assoc (asked_lines items) (codes "end\n") after in
    let has = rest_at rest (codes "end\n" ++ after) items count (length items + 2) low lines refl in
    (length items + 2, after, subst (λ bs. HasRestAt bs count (length items + 2) (codes "end\n" ++ after)) (sym title) has, omega (arith, is), some)

-- a line of digits that isn't below the bound
pub great_agent : (line : List ℕ) (bound number : ℕ) (read : Option ℕ) (fault : LineFault) → bound < 2 ^ 32 → read_whole line ≡ Ok read → below bound read ≡ Err fault → GivesNoAgent line bound number (E3 number)
great_agent line bound number read fault few whole_is refused =
    let (all, begins, value) = whole_spelled line read whole_is in
    (refl, (all, begins), below_refused bound line fault (omega arith) (ap (below bound) (sym value) ∙ refused))
