use Rattle.std.proofs.Common.{ℕ, ◌-◌, ◌<◌, ◌≤◌, List, ◌++◌, length, take, arith, length-append, length-take-le}
use Rattle.std.proofs.KnownBytes.{Consumes-trans}
use Rattle.mapf_model.proofs.source.read_all.Goals as goal

longer : (xs ys : List ℕ) (n limit : ℕ) → n ≤ length ys → limit - length xs < n → limit < length (xs ++ take n ys)
longer xs ys n limit fits over = omega (arith, length-append xs (take n ys), length-take-le n ys fits)

-- what came before the last pull, and what it gave
pub returns-then-n-limit-clause-too_long : goal.returns-then-n-limit-clause-too_long
returns-then-n-limit-clause-too_long g c _ =
    let over : c.args.limit - length c.loop-n.bytes.items < c.in-Ok.n = omega (arith, c.loop-n.bytes.ok.0) in (
      c.loop-n.bytes.items ++ take c.in-Ok.n c.pull.new.buf,
      Consumes-trans _ _ _ _ _ c.loop-n.invariant.given c.in-Ok.ensures.bytes.0,
      longer _ _ _ _ c.in-Ok.ensures.bound over,
    )
