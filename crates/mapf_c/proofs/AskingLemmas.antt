-- How the replies to agents that ask one after another join.
use Rattle.std.proofs.Common.{◌≡◌, ◌<◌, ◌+◌, ◌++◌, ◌∷◌, [], ℕ, List, length, take, get_or, refl, sym, ap, subst, ◌∙◌}
use Rattle.std.proofs.lemmas.List.{take_more, take_more_set}
use Rattle.std.specs.Prelude.{set}
use Rattle.mapf_c.specs.Dispatchers.{AreAnswered, IsAnswered}
use Rattle.mapf_c.specs.declared.numbers.ReplyNumbers.{ReplyNumbers}
use Rattle.mapf_player.specs.Dispatching.{Progress}

answered_join : (agents : List ℕ) (replies : List ReplyNumbers) (before between after : Progress) (others : List ℕ) (more : List ReplyNumbers) → AreAnswered before agents replies between → AreAnswered between others more after → AreAnswered before (agents ++ others) (replies ++ more) after
answered_join [] [] before between after others more same are = subst (λ p. AreAnswered p others more after) (sym same) are
answered_join [] (reply ∷ replies) before between after others more none are = absurd none
answered_join (agent ∷ agents) [] before between after others more none are = absurd none
answered_join (agent ∷ agents) (reply ∷ replies) before between after others more (next, first, rest) are =
    (next, first, answered_join agents replies next between after others more rest are)

-- the agents up to the one at this place have their replies, and this one gets its own
pub answered_more : (agents : List ℕ) (replies : List ReplyNumbers) (place agent : ℕ) (before between after : Progress) (reply : ReplyNumbers) → place < length agents → place < length replies → agent ≡ get_or agents place 0 →
    AreAnswered before (take place agents) (take place replies) between → IsAnswered between agent reply after → AreAnswered before (take (place + 1) agents) (take (place + 1) (set replies place reply)) after
answered_more agents replies place agent before between after reply within room is so_far answer =
    subst (λ xs. AreAnswered before xs (take (place + 1) (set replies place reply)) after) (sym (take_more agents place 0 within ∙ ap (λ x. take place agents ++ x ∷ []) (sym is)))
    (subst (λ rs. AreAnswered before (take place agents ++ agent ∷ []) rs after) (sym (take_more_set replies place reply room))
    (answered_join (take place agents) (take place replies) before between after (agent ∷ []) (reply ∷ []) so_far (after, answer, refl)))
