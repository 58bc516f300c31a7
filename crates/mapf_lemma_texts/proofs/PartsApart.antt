-- Two texts that begin with a part, and of which one begins the other, begin with the same part.
use Rattle.std.proofs.Common.{◌≡◌, ℕ, List, [], ◌∷◌, ◌++◌, length, All, Option, sym, ◌∙◌, append_assoc}
use Rattle.mapf_certificate.specs.Bounded.{AreSpelledApart}
use Rattle.mapf_certificate.proofs.Sequences.{same_list}
use Rattle.mapf_lemmas.specs.Groups.{Group}
use Rattle.mapf_lemmas.specs.declared.constraint.AgentConstraint.{AgentConstraint}
use Rattle.mapf_lemmas.specs.declared.joint.JointCell.{JointCell}
use Rattle.mapf_lemmas.specs.declared.joint.JointEntry.{JointEntry}
use Rattle.mapf_lemmas.specs.declared.price.Price.{Price}
use Rattle.mapf_lemma_texts.specs.declared.line.LemmaLine.{LemmaLine}
use Rattle.mapf_lemma_texts.specs.declared.line.LemmaLine.TheVariants as lines
use Rattle.mapf_lemma_texts.specs.declared.part.Part.{Part}
use Rattle.mapf_lemma_texts.specs.declared.part.Part.TheVariants as parts
use Rattle.mapf_lemma_texts.specs.declared.sizes.LineSizes.{LineSizes}
use Rattle.mapf_lemma_texts.specs.Lines.{line_text}
use Rattle.mapf_lemma_texts.specs.Listing.{IsListed, IsFirstSmaller, IsOfAgents, FitsAnyhow, InAnyOrder, value_text, values_text}
use Rattle.mapf_lemma_texts.specs.Parts.{IsGroupInRange, IsPart, first_line, group_text, groups_text, more_text, part_text}
use Rattle.mapf_lemma_texts.proofs.ListLaws.{values_apart, groups_apart, same_later}
use Rattle.mapf_lemma_texts.proofs.PartTexts.{price_same, constraint_same, entry_same, joint_same, cells_same, agent_same, single_same, list_fields, one_fields, two_fields, never_fields, cases_fields, leaf_fields}
use Rattle.mapf_model.specs.declared.label.Entry.{Entry}
use Rattle.mapf_model.specs.declared.label.Label.{Label}

-- two lists of as many values, whatever else holds of them
same_values : {A : Type 0} (sizes : LineSizes) (line : A → LemmaLine) (F G : A → Type 0) → ((a b : A) → line a ≡ line b → a ≡ b) → (xs ys : List A) (s t : List ℕ) → All (IsListed sizes line F) xs → All (IsListed sizes line G) ys → length xs ≡ length ys
    → values_text sizes.width line xs ++ s ≡ values_text sizes.width line ys ++ t → (xs ≡ ys) × (s ≡ t)
same_values {A = A} sizes line F G injective xs ys s t p q many e =
    let here : All (IsListed sizes line FitsAnyhow) xs = λ k d inside. ((p k d inside).0, tt) in
    let there : All (IsListed sizes line FitsAnyhow) ys = λ k d inside. ((q k d inside).0, tt) in
    same_list (IsListed sizes line FitsAnyhow) (value_text sizes.width line) (values_apart sizes line FitsAnyhow InAnyOrder injective) xs ys s t here there many e

list_is : (u v : ℕ) (ps qs : List Price) → u ≡ v → ps ≡ qs → parts.List (record { unit = u; prices = ps }) ≡ parts.List (record { unit = v; prices = qs })
list_is u v ps qs p q = cc

one_is : (i i' : ℕ) (cs cs' : List AgentConstraint) (n n' : Option ℕ) (es es' : List Entry) → i ≡ i' → cs ≡ cs' → n ≡ n' → es ≡ es' → parts.One (record { agent = i; constraints = cs; list_number = n; entries = es }) ≡ parts.One (record { agent = i'; constraints = cs'; list_number = n'; entries = es' })
one_is i i' cs cs' n n' es es' p q r s = cc

two_is : (i i' j j' : ℕ) (cs cs' : List AgentConstraint) (n n' : Option ℕ) (es es' fs fs' : List Entry) (js js' : List JointEntry) → i ≡ i' → j ≡ j' → cs ≡ cs' → n ≡ n' → es ≡ es' → fs ≡ fs' → js ≡ js'
    → parts.Two (record { i = i; j = j; constraints = cs; list_number = n; first = es; second = fs; joint = js }) ≡ parts.Two (record { i = i'; j = j'; constraints = cs'; list_number = n'; first = es'; second = fs'; joint = js' })
two_is i i' j j' cs cs' n n' es es' fs fs' js js' p q r s t u v = cc

never_is : (i i' j j' : ℕ) (cs cs' : List JointCell) → i ≡ i' → j ≡ j' → cs ≡ cs' → parts.Never (record { i = i; j = j; cells = cs }) ≡ parts.Never (record { i = i'; j = j'; cells = cs' })
never_is i i' j j' cs cs' p q r = cc

cases_is : (as' bs : List ℕ) (cs cs' : List AgentConstraint) (n n' : Label) → as' ≡ bs → cs ≡ cs' → n ≡ n' → parts.Cases (record { agents = as'; constraints = cs; bound = n }) ≡ parts.Cases (record { agents = bs; constraints = cs'; bound = n' })
cases_is as' bs cs cs' n n' p q r = cc

leaf_is : (n n' : Option ℕ) (us us' : List ℕ) (gs gs' : List Group) → n ≡ n' → us ≡ us' → gs ≡ gs' → parts.Leaf (record { list_number = n; singles = us; groups = gs }) ≡ parts.Leaf (record { list_number = n'; singles = us'; groups = gs' })
leaf_is n n' us us' gs gs' p q r = cc

pub part_cut : (width : ℕ) (part : Part) (s : List ℕ) → part_text width part ++ s ≡ line_text width (first_line part) ++ (more_text width part ++ s)
part_cut width part s = append_assoc (line_text width (first_line part)) (more_text width part) s

pub parts_apart : (sizes : LineSizes) → AreSpelledApart Part (IsPart sizes) (part_text sizes.width)
parts_apart sizes = record {
  apart = λ a b s t p q e.
      let w = sizes.width in
      let (same, rest) = same_later sizes (first_line a) (first_line b) (more_text w a ++ s) (more_text w b ++ t) p.0 q.0 (sym (part_cut w a s) ∙ e ∙ part_cut w b t) in
      by a b s t p q same rest;
}
  where
    w : ℕ
    w = sizes.width

    by : (a b : Part) (s t : List ℕ) → IsPart sizes a → IsPart sizes b → first_line a ≡ first_line b → more_text w a ++ s ≡ more_text w b ++ t → (a ≡ b) × (s ≡ t)
    by (parts.Prices m) (parts.Prices n) s t p q e rest = (cc, rest)
    by (parts.Lemmas m) (parts.Lemmas n) s t p q e rest = (cc, rest)
    by (parts.Vertex i j v k) (parts.Vertex i' j' v' k') s t p q e rest = (cc, rest)
    by (parts.Swap i j u v k) (parts.Swap i' j' u' v' k') s t p q e rest = (cc, rest)
    by (parts.Cost i k) (parts.Cost i' k') s t p q e rest = (cc, rest)
    by (parts.Costs i k j m n) (parts.Costs i' k' j' m' n') s t p q e rest = (cc, rest)
    by (parts.Clash i j) (parts.Clash i' j') s t p q e rest = (cc, rest)
    by (parts.List a) (parts.List b) s t p q e rest =
        let (unit, many) = list_fields a.unit b.unit (length a.prices) (length b.prices) e in
        let (prices, tail) = same_values sizes lines.Price IsFirstSmaller IsFirstSmaller price_same a.prices b.prices s t p.1.each q.1.each many rest in
        (list_is a.unit b.unit a.prices b.prices unit prices, tail)
    by (parts.One a) (parts.One b) s t p q e rest =
        let (agent, few, many, number) = one_fields a.agent b.agent (length a.constraints) (length b.constraints) (length a.entries) (length b.entries) a.list_number b.list_number e in
        let ta = values_text w lines.At a.entries in
        let tb = values_text w lines.At b.entries in
        let (constraints, more) = same_values sizes lines.Constraint (IsOfAgents (a.agent ∷ [])) (IsOfAgents (b.agent ∷ [])) constraint_same a.constraints b.constraints (ta ++ s) (tb ++ t) p.1.0.each q.1.0.each few
        (sym (append_assoc (values_text w lines.Constraint a.constraints) ta s) ∙ rest ∙ append_assoc (values_text w lines.Constraint b.constraints) tb t) in
        let (entries, tail) = same_values sizes lines.At FitsAnyhow FitsAnyhow entry_same a.entries b.entries s t p.1.1.each q.1.1.each many more in
        (one_is a.agent b.agent a.constraints b.constraints a.list_number b.list_number a.entries b.entries agent constraints number entries, tail)
    by (parts.Two a) (parts.Two b) s t p q e rest =
        let (i, j, few, m, n, r, number) = two_fields a.i b.i a.j b.j (length a.constraints) (length b.constraints) (length a.first) (length b.first) (length a.second) (length b.second) (length a.joint) (length b.joint) a.list_number b.list_number e in
        let ca = values_text w lines.Constraint a.constraints in
        let cb = values_text w lines.Constraint b.constraints in
        let fa = values_text w lines.At a.first in
        let fb = values_text w lines.At b.first in
        let sa = values_text w lines.At a.second in
        let sb = values_text w lines.At b.second in
        let ja = values_text w lines.JointAt a.joint in
        let jb = values_text w lines.JointAt b.joint in
        let (constraints, one) = same_values sizes lines.Constraint (IsOfAgents (a.i ∷ a.j ∷ [])) (IsOfAgents (b.i ∷ b.j ∷ [])) constraint_same a.constraints b.constraints ((fa ++ (sa ++ ja)) ++ s) ((fb ++ (sb ++ jb)) ++ t) p.1.0.each q.1.0.each few
        (sym (append_assoc ca (fa ++ (sa ++ ja)) s) ∙ rest ∙ append_assoc cb (fb ++ (sb ++ jb)) t) in
        let (first, two) = same_values sizes lines.At FitsAnyhow FitsAnyhow entry_same a.first b.first ((sa ++ ja) ++ s) ((sb ++ jb) ++ t) p.1.1.each q.1.1.each m
        (sym (append_assoc fa (sa ++ ja) s) ∙ one ∙ append_assoc fb (sb ++ jb) t) in
        let (second, three) = same_values sizes lines.At FitsAnyhow FitsAnyhow entry_same a.second b.second (ja ++ s) (jb ++ t) p.1.2.each q.1.2.each n
        (sym (append_assoc sa ja s) ∙ two ∙ append_assoc sb jb t) in
        let (joint, tail) = same_values sizes lines.JointAt FitsAnyhow FitsAnyhow joint_same a.joint b.joint s t p.1.3.each q.1.3.each r three in
        (two_is a.i b.i a.j b.j a.constraints b.constraints a.list_number b.list_number a.first b.first a.second b.second a.joint b.joint i j constraints number first second joint, tail)
    by (parts.Never a) (parts.Never b) s t p q e rest =
        let (i, j, many) = never_fields a.i b.i a.j b.j (length a.cells) (length b.cells) e in
        let (cells, tail) = same_values sizes lines.Cells FitsAnyhow FitsAnyhow cells_same a.cells b.cells s t p.1.each q.1.each many rest in
        (never_is a.i b.i a.j b.j a.cells b.cells i j cells, tail)
    by (parts.Cases a) (parts.Cases b) s t p q e rest =
        let (many, few, bound) = cases_fields (length a.agents) (length b.agents) (length a.constraints) (length b.constraints) a.bound b.bound e in
        let ca = values_text w lines.Constraint a.constraints in
        let cb = values_text w lines.Constraint b.constraints in
        let (agents, more) = same_values sizes lines.Agent FitsAnyhow FitsAnyhow agent_same a.agents b.agents (ca ++ s) (cb ++ t) p.1.0.each q.1.0.each many
        (sym (append_assoc (values_text w lines.Agent a.agents) ca s) ∙ rest ∙ append_assoc (values_text w lines.Agent b.agents) cb t) in
        let (constraints, tail) = same_values sizes lines.Constraint (IsOfAgents a.agents) (IsOfAgents b.agents) constraint_same a.constraints b.constraints s t p.1.1.each q.1.1.each few more in
        (cases_is a.agents b.agents a.constraints b.constraints a.bound b.bound agents constraints bound, tail)
    by (parts.Leaf a) (parts.Leaf b) s t p q e rest =
        let (many, count, number) = leaf_fields (length a.singles) (length b.singles) (length a.groups) (length b.groups) a.list_number b.list_number e in
        let ga = groups_text w a.groups in
        let gb = groups_text w b.groups in
        let (singles, more) = same_values sizes lines.Use FitsAnyhow FitsAnyhow single_same a.singles b.singles (ga ++ s) (gb ++ t) p.1.0.each q.1.0.each many
        (sym (append_assoc (values_text w lines.Use a.singles) ga s) ∙ rest ∙ append_assoc (values_text w lines.Use b.singles) gb t) in
        let (groups, tail) = same_list (IsGroupInRange sizes) (group_text w) (groups_apart sizes) a.groups b.groups s t p.1.1 q.1.1 count more in
        (leaf_is a.list_number b.list_number a.singles b.singles a.groups b.groups number singles groups, tail)
    by _ _ s t p q e rest = cc
