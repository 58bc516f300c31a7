use Rattle.std.proofs.Common.{◌≡◌, Option, None, Some, List, option_map, inr, refl, sym, ap, ap₂, map, ◌∙◌, true}
use Rattle.std.proofs.lemmas.Option.{same_Some}
use Rattle.std.proofs.lemmas.Result.{IfOk-weaker}
use Rattle.clap.proofs.OnLiterals.{clap_on_literals}
use Rattle.clap.specs.Words.{Row, Text, fault_of, found_of, is_simple, is_simple_and_free, subcommand_of}
use Rattle.mapf_words.specs.CommandLine.{mapf_command}
use Rattle.mapf_words.proofs.words.job_of.Goals as goal

-- a pair, by its parts
both : {B : Type 0} (x : Option B) (name : B → Text) (rows : B → List Row) (a : Text) (b : List Row) → Some a ≡ option_map name x → Some b ≡ option_map (λ (p : Text × List Row). p.1) (option_map {U = Text × List Row} (λ c. (name c, rows c)) x) →
    option_map {U = Text × List Row} (λ c. (name c, rows c)) x ≡ Some (a, b)
both None name rows a b is_a is_b = absurd cc
both (Some c) name rows a b is_a is_b = rw (same_Some a (name c) is_a, same_Some b (rows c) is_b) refl

is_read : is_simple mapf_command ≡ true
unfolding clap_on_literals
is_read = refl

is_free : is_simple_and_free mapf_command ≡ true
unfolding clap_on_literals
is_free = refl

pub returns-in-Some-clause-read : goal.returns-in-Some-clause-read
returns-in-Some-clause-read c = IfOk-weaker c.job_in.result _ _ (λ job named. inr (
  ap₂ fault_of (sym c.in_ok-mapf.ensures) (ap (map _) (sym c.as_slice.ensures.value)) ∙ c.in-Ok.ensures.kinds (ap is_simple_and_free c.in_ok-mapf.ensures ∙ is_free),
  c.in-Some.command.now,
  found_of c.in-Some.given.now,
  ap₂ subcommand_of (sym c.in_ok-mapf.ensures) (ap (map _) (sym c.as_slice.ensures.value)) ∙ sym (c.in-Ok.ensures.matches (ap is_simple c.in_ok-mapf.ensures ∙ is_read)).1 ∙ both _ _ _ _ _ c.in-Some.ensures.name c.in-Some.ensures.rows,
  named,
)) c.job_in.ensures.named
