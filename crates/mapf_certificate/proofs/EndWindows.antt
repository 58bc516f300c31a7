-- The end of a source.
use Rattle.std.proofs.Common.{◌≡◌, ℕ, List, [], ◌∷◌, ◌++◌, Option, Bool, refl, sym, subst, inl, arith}
use Rattle.std.proofs.KnownBytes.{Consumes-nil}
use Rattle.mapf_certificate.specs.declared.buffer.NoLine.{NoLine}
use Rattle.mapf_certificate.specs.declared.buffer.NoLine.TheVariants as stops
use Rattle.mapf_certificate.specs.declared.cert.LinesFault.{LinesFault}
use Rattle.mapf_certificate.specs.Buffered.{Buffered}
use Rattle.mapf_certificate.specs.Window.{Refuses, Fails, LacksBytes, Reports}

-- bytes that are there refuse the end
pub more_there : (had : Option (List ℕ)) (x : Buffered) → (x.bytes ≡ [] → ⊥) → Refuses had had x (λ t. t ≡ [])
more_there had x some = record {
  pulled = [];
  source = Consumes-nil had;
  within = omega arith;
  wrong = inl (λ more none. some (by x.bytes more none));
}
  where
    by : (xs more : List ℕ) → (xs ++ []) ++ more ≡ [] → xs ≡ []
    by [] more e = refl
    by (b ∷ bs) more e = cc

pub lacks_fails : (had left : Option (List ℕ)) (failed : Bool) (x : Buffered) (Is : List ℕ → Type 0) (why : NoLine) (fault : LinesFault) → LacksBytes had left failed x why → Reports why fault → Fails had left failed x Is fault
lacks_fails had left failed x Is stops.Ended fault lacks tells = absurd lacks
lacks_fails had left failed x Is stops.Overlong fault lacks tells = absurd lacks
lacks_fails had left failed x Is stops.Device fault lacks tells = subst (Fails had left failed x Is) (sym tells) lacks
lacks_fails had left failed x Is stops.PastLimit fault lacks tells = subst (Fails had left failed x Is) (sym tells) lacks
