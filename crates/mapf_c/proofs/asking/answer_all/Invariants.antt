use Rattle.std.proofs.Common.{◌≡◌, ◌≤◌, ℕ, drop, take}
use Rattle.mapf_c.specs.Dispatchers.{AreAnswered}
use Rattle.mapf_c.proofs.asking.answer_all.Given as goal

abbrev pub invariant-loop-place : goal.invariant-loop-place
invariant-loop-place l =
    record {
      answered : AreAnswered l.fn.dispatch (take l.place l.agents) (take l.place l.replies) l.dispatch;
      rest : (n : ℕ) → l.place ≤ n → drop n l.replies ≡ drop n l.fn.replies;
    }
