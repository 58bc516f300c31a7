-- The first line of a certificate tells whether it is of version 3.
use Rattle.std.proofs.Common.{◌≡◌, ◌↔◌, ℕ, Bool, List, ◌∷◌, ◌++◌, Option, IsTrue, codes, flat_map, get_or, length, refl, sym, ◌∙◌, ap, append_assoc, arith}
use Rattle.mapf_fields.specs.Ends.{IsCut}
use Rattle.mapf_fields.proofs.Plain.{same_front}
use Rattle.mapf_model.specs.declared.item.Claim.{Claim}
use Rattle.mapf_model.specs.Grid.{GridMap}
use Rattle.mapf_model.specs.Plan.{Instance}
use Rattle.mapf_model.specs.Tree.{ConstraintTree, nodes_of}
use Rattle.mapf_certificate.specs.declared.buffer.NoLine.{NoLine}
use Rattle.mapf_certificate.specs.declared.cert.LinesFault.{LinesFault}
use Rattle.mapf_certificate.specs.declared.line.CertLine.{CertLine}
use Rattle.mapf_certificate.specs.declared.line.CertLine.TheVariants as lines
use Rattle.mapf_certificate.specs.declared.tree_line.Due.TheVariants as dues
use Rattle.mapf_certificate.specs.declared.version.Version.{Version}
use Rattle.mapf_certificate.specs.declared.version.Version.TheVariants.{One, Two}
use Rattle.mapf_certificate.specs.Bounded.{BeginsWithLine}
use Rattle.mapf_certificate.specs.Buffered.{Buffered}
use Rattle.mapf_certificate.specs.Certificates.{SpellsCert, line_text, rest_text}
use Rattle.mapf_certificate.specs.Lines.{IsTitleLine}
use Rattle.mapf_certificate.specs.Window.{Fails, LacksLine, Reports}
use Rattle.mapf_certificate.proofs.LineWindows.{lacking}
use Rattle.mapf_certificate.proofs.Windows.{Fails-weaker}
use Rattle.mapf_lemma_checker.specs.Whole.{IsGoodLemmaCert}
use Rattle.mapf_lemma_texts.specs.declared.line.LemmaLine.TheVariants as lemma_lines
use Rattle.mapf_lemma_texts.specs.declared.sizes.LinePlace.TheVariants as places
use Rattle.mapf_lemma_texts.specs.Beginnings.{BeginsWithLine as BeginsWithLemmaLine}
use Rattle.mapf_lemma_texts.specs.Lines.{line_text as lemma_line_text}
use Rattle.mapf_lemma_texts.specs.Parts.{part_text}
use Rattle.mapf_lemma_texts.specs.WholeTexts.{parts_of}
use Rattle.mapf_lemma_texts.proofs.LineWindows.{lacking as lacking_lemma_line}
use Rattle.mapf_checker.specs.Refusals.{BeginsVersionThree}

-- a certificate of version 1 or 2 begins with a title of its version
pub title_of_tree : (grid : GridMap) (bytes : List ℕ) (version : Version) (agents : ℕ) (claim : Claim) (tree : ConstraintTree) → SpellsCert grid bytes version agents claim tree → BeginsWithLine dues.Title bytes
title_of_tree grid bytes version agents claim tree spells = record {
  value = lines.Title version;
  is = tt;
  rest = (line_text grid.width (lines.Agents agents) ++ line_text grid.width (lines.Claim claim)) ++ rest_text version grid.width (nodes_of tree);
  spelled = spells.spelled ∙ append_assoc (line_text grid.width (lines.Title version)) (line_text grid.width (lines.Agents agents) ++ line_text grid.width (lines.Claim claim)) (rest_text version grid.width (nodes_of tree));
}

-- one of version 3 begins with its own
pub title_of_lemmas : (problem : Instance) (claim : Claim) (bytes : List ℕ) → IsGoodLemmaCert problem claim bytes → BeginsVersionThree bytes
title_of_lemmas problem claim bytes good =
    let width = problem.grid.width in
    let header = lemma_line_text width (lemma_lines.Agents (length problem.agents)) ++ lemma_line_text width (lemma_lines.Claim claim) in
    let parts = flat_map (part_text width) (parts_of good.lists good.lemmas good.tree) ++ lemma_line_text width lemma_lines.End in
    (header ++ parts, good.spelled.spelled ∙ append_assoc (lemma_line_text width lemma_lines.Title) header parts)

-- and no text begins with both
pub titles_differ : (bytes : List ℕ) → BeginsWithLine dues.Title bytes → BeginsVersionThree bytes → ⊥
titles_differ bytes old (rest, same) = by old.value old.is (sym old.spelled ∙ same) where
  by : (line : CertLine) → IsTitleLine line → line_text 1 line ++ old.rest ≡ lemma_line_text 0 lemma_lines.Title ++ rest → ⊥
  by (lines.Title One) is e = absurd (omega (arith, ap (λ (l : List ℕ). get_or l 10 0) e))
  by (lines.Title Two) is e = absurd (omega (arith, ap (λ (l : List ℕ). get_or l 10 0) e))
  by line is e = absurd is

-- the first line in the buffer tells it, whatever follows
pub title_tells : (is : Bool) (bytes first rest : List ℕ) → IsCut bytes first rest → (IsTrue is ↔ first ≡ codes "mapf-cert 3") → (more : List ℕ) → IsTrue is ↔ BeginsVersionThree (bytes ++ more)
title_tells is bytes first rest found tells more = (
  λ yes. (rest ++ more, all ∙ ap (λ l. l ++ (10 ∷ (rest ++ more))) (tells.0 yes)),
  λ begins. tells.1 (same_front first (codes "mapf-cert 3") (rest ++ more) begins.0 found.whole refl (sym all ∙ begins.1)).0,
)
  where
    all : bytes ++ more ≡ first ++ (10 ∷ (rest ++ more))
    all = ap (λ l. l ++ more) found.same ∙ append_assoc first (10 ∷ rest) more

three_is_line : (bytes : List ℕ) → BeginsVersionThree bytes → BeginsWithLemmaLine places.Title bytes
three_is_line bytes begins = record { value = lemma_lines.Title; is = tt; rest = begins.0; spelled = begins.1 }

-- if there is no first line, the text begins with none of these lines
pub lacks_title : (had left : Option (List ℕ)) (failed : Bool) (old new : Buffered) (why : NoLine) (fault : LinesFault) → LacksLine had left failed old new why → Reports why fault →
    Fails had left failed old (BeginsWithLine dues.Title) fault × Fails had left failed old BeginsVersionThree fault
lacks_title had left failed old new why fault lacks tells = (
  lacking dues.Title had left failed old new why fault lacks tells,
  Fails-weaker had left failed old BeginsVersionThree (BeginsWithLemmaLine places.Title) fault three_is_line (lacking_lemma_line places.Title had left failed old new why fault lacks tells),
)
