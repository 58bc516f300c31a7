-- Tables that are made and tables that aren't.
use Rattle.std.proofs.Common.{◌≡◌, ℕ, ◌<◌, Option, None, Some, true, false, length, replicate, sym, refl, ◌∙◌, arith}
use Rattle.std.proofs.lemmas.List.{length-replicate, get_or-replicate}
use Rattle.std.proofs.lemmas.Option.{get_or_from_slice_get, slice_get_within}
use Rattle.std.specs.Option.{is_some}
use Rattle.mapf_model.specs.Plan.{Instance}
use Rattle.mapf_distance.specs.Distances.{GoalMap}
use Rattle.mapf_distance.specs.Tables.{AreMade}

-- no table is made
pub AreMade-none : (problem : Instance) (count : ℕ) → count ≡ length problem.agents → AreMade problem (replicate count None)
AreMade-none problem count is = record {
  places = length-replicate count None ∙ is;
  made = λ i agent table known there. absurd (
      let within : i < count = let h = slice_get_within (replicate count None) i (Some table) there in let n = length-replicate count (let o : Option GoalMap = None in o) in omega (arith, h, n) in
      let e : None ≡ Some table = sym (get_or-replicate count i None None within) ∙ get_or_from_slice_get (replicate count None) i (Some table) None there in cc);
}

-- the value of an option that isn't None
pub held : {X : Type 0} (o : Option X) → is_some o ≡ true → (x : X) × (o ≡ Some x)
held None e = absurd (let f : false ≡ true = e in cc)
held (Some x) e = (x, refl)
