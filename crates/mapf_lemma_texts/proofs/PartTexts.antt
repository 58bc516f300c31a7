-- What follows the first line of a part.
use Rattle.std.proofs.Common.{◌≡◌, ◌<◌, ℕ, List, [], ◌∷◌, ◌++◌, length, Option, Bool, false, refl, sym, ap, subst, ◌∙◌, arith, append_assoc, inl}
use Rattle.std.proofs.KnownBytes.{Consumes-nil}
use Rattle.mapf_certificate.specs.declared.cert.LinesFault.{LinesFault}
use Rattle.mapf_certificate.specs.Buffered.{Buffered}
use Rattle.mapf_certificate.specs.Bounded.{AreInOrder}
use Rattle.mapf_certificate.specs.Window.{Window, BeginsWith, Fails, IsTextFault}
use Rattle.mapf_certificate.proofs.Sequences.{same_list}
use Rattle.mapf_certificate.proofs.Windows.{Fails-text, Window-trans}
use Rattle.mapf_lemmas.specs.Groups.{Group, LeafUses}
use Rattle.mapf_lemmas.specs.Prices.{PriceList}
use Rattle.mapf_lemmas.specs.declared.constraint.AgentConstraint.{AgentConstraint}
use Rattle.mapf_lemmas.specs.declared.joint.JointCell.{JointCell}
use Rattle.mapf_lemmas.specs.declared.joint.JointEntry.{JointEntry}
use Rattle.mapf_lemmas.specs.declared.price.Price.{Price}
use Rattle.mapf_lemma_texts.specs.declared.line.LemmaLine.{LemmaLine}
use Rattle.mapf_lemma_texts.specs.declared.line.LemmaLine.TheVariants as lines
use Rattle.mapf_lemma_texts.specs.declared.part.Part.{Part}
use Rattle.mapf_lemma_texts.specs.declared.part.Part.TheVariants as parts
use Rattle.mapf_lemma_texts.specs.declared.sizes.LineSizes.{LineSizes}
use Rattle.mapf_lemma_texts.specs.Lines.{IsLaterLine}
use Rattle.mapf_lemma_texts.specs.Listing.{IsListed, BeginsWithList, IsFirstSmaller, IsOfAgents, FitsAnyhow, InAnyOrder, value_text, values_text}
use Rattle.mapf_lemma_texts.specs.PartReading.{FollowsFirst, CompletesPart}
use Rattle.mapf_lemma_texts.specs.Parts.{AreConstraints, AreItsLists, IsGroupInRange, IsPart, first_line, groups_text, more_text}
use Rattle.mapf_lemma_texts.specs.PartValues.{OneValue, TwoValue, NeverValue, CasesValue}
use Rattle.mapf_lemma_texts.specs.Places.{IsBefore, price_place, entry_place, joint_place, cells_place}
use Rattle.mapf_lemma_texts.proofs.ListLaws.{ListThen, values_apart}
use Rattle.mapf_model.specs.declared.label.Entry.{Entry}
use Rattle.mapf_model.specs.declared.label.Label.{Label}

-- the orders of the lists
abbrev pub BeforePrice : Price → Price → Type 0
BeforePrice a b = IsBefore (price_place a) (price_place b)

abbrev pub BeforeEntry : Entry → Entry → Type 0
BeforeEntry a b = IsBefore (entry_place a) (entry_place b)

abbrev pub BeforeJoint : JointEntry → JointEntry → Type 0
BeforeJoint a b = IsBefore (joint_place a) (joint_place b)

abbrev pub BeforeCells : JointCell → JointCell → Type 0
BeforeCells a b = IsBefore (cells_place a) (cells_place b)

-- lists that are due
abbrev pub PricesDue : LineSizes → ℕ → List ℕ → Type 0
PricesDue sizes = BeginsWithList Price sizes lines.Price IsFirstSmaller BeforePrice

abbrev pub ConstraintsDue : LineSizes → List ℕ → ℕ → List ℕ → Type 0
ConstraintsDue sizes agents = BeginsWithList AgentConstraint sizes lines.Constraint (IsOfAgents agents) InAnyOrder

abbrev pub EntriesDue : LineSizes → ℕ → List ℕ → Type 0
EntriesDue sizes = BeginsWithList Entry sizes lines.At FitsAnyhow BeforeEntry

abbrev pub JointDue : LineSizes → ℕ → List ℕ → Type 0
JointDue sizes = BeginsWithList JointEntry sizes lines.JointAt FitsAnyhow BeforeJoint

abbrev pub CellsDue : LineSizes → ℕ → List ℕ → Type 0
CellsDue sizes = BeginsWithList JointCell sizes lines.Cells FitsAnyhow BeforeCells

abbrev pub AgentsDue : LineSizes → ℕ → List ℕ → Type 0
AgentsDue sizes = BeginsWithList ℕ sizes lines.Agent FitsAnyhow ◌<◌

abbrev pub GroupsDue : LineSizes → ℕ → List ℕ → Type 0
GroupsDue sizes count = BeginsWith (List Group) (AreInOrder Group (IsGroupInRange sizes) InAnyOrder count) (groups_text sizes.width)

-- values with the same line are the same
pub price_same : (a b : Price) → lines.Price a ≡ lines.Price b → a ≡ b
price_same a b e = cc

pub constraint_same : (a b : AgentConstraint) → lines.Constraint a ≡ lines.Constraint b → a ≡ b
constraint_same a b e = cc

pub entry_same : (a b : Entry) → lines.At a ≡ lines.At b → a ≡ b
entry_same a b e = cc

pub joint_same : (a b : JointEntry) → lines.JointAt a ≡ lines.JointAt b → a ≡ b
joint_same a b e = cc

pub cells_same : (a b : JointCell) → lines.Cells a ≡ lines.Cells b → a ≡ b
cells_same a b e = cc

pub agent_same : (a b : ℕ) → lines.Agent a ≡ lines.Agent b → a ≡ b
agent_same a b e = cc

pub single_same : (a b : ℕ) → lines.Use a ≡ lines.Use b → a ≡ b
single_same a b e = cc

-- first lines that are the same have the same fields
pub list_fields : (u v m n : ℕ) → lines.List u m ≡ lines.List v n → (u ≡ v) × (m ≡ n)
list_fields u v m n e = (cc, cc)

pub one_fields : (i i' f f' m m' : ℕ) (q q' : Option ℕ) → lines.One i f m q ≡ lines.One i' f' m' q' → (i ≡ i') × (f ≡ f') × (m ≡ m') × (q ≡ q')
one_fields i i' f f' m m' q q' e = (cc, cc, cc, cc)

pub two_fields : (i i' j j' f f' m m' n n' r r' : ℕ) (q q' : Option ℕ) → lines.Two i j f m n r q ≡ lines.Two i' j' f' m' n' r' q' → (i ≡ i') × (j ≡ j') × (f ≡ f') × (m ≡ m') × (n ≡ n') × (r ≡ r') × (q ≡ q')
two_fields i i' j j' f f' m m' n n' r r' q q' e = (cc, cc, cc, cc, cc, cc, cc)

pub never_fields : (i i' j j' m m' : ℕ) → lines.Never i j m ≡ lines.Never i' j' m' → (i ≡ i') × (j ≡ j') × (m ≡ m')
never_fields i i' j j' m m' e = (cc, cc, cc)

pub cases_fields : (a a' f f' : ℕ) (p p' : Label) → lines.Cases a f p ≡ lines.Cases a' f' p' → (a ≡ a') × (f ≡ f') × (p ≡ p')
cases_fields a a' f f' p p' e = (cc, cc, cc)

pub leaf_fields : (u u' g g' : ℕ) (q q' : Option ℕ) → lines.Leaf u g q ≡ lines.Leaf u' g' q' → (u ≡ u') × (g ≡ g') × (q ≡ q')
leaf_fields u u' g g' q q' e = (cc, cc, cc)

-- what follows the first line of a list
pub list_next : (sizes : LineSizes) (line : LemmaLine) (unit count : ℕ) → line ≡ lines.List unit count → (t : List ℕ) → FollowsFirst PriceList parts.List sizes line t → PricesDue sizes count t
list_next sizes line unit count same t follows =
    let v = follows.value in
    let (one, many) = list_fields v.unit unit (length v.prices) count (follows.first ∙ same) in
    record { value = v.prices; is = record { many = many; each = follows.is.1.each; rising = follows.is.1.rising }; rest = follows.rest; spelled = follows.spelled }

-- that of a lemma of one agent
pub one_next : (sizes : LineSizes) (line : LemmaLine) (agent few count : ℕ) (number : Option ℕ) → line ≡ lines.One agent few count number → (t : List ℕ) → FollowsFirst OneValue parts.One sizes line t
    → ListThen AgentConstraint sizes lines.Constraint (IsOfAgents (agent ∷ [])) InAnyOrder few (EntriesDue sizes count) t
one_next sizes line agent few count number same t follows =
    let v = follows.value in
    let (one, two, three, four) = one_fields v.agent agent (length v.constraints) few (length v.entries) count v.list_number number (follows.first ∙ same) in
    let constraints = subst (λ (i : ℕ). AreConstraints sizes (i ∷ []) v.constraints) one follows.is.1.0 in
    let entries = follows.is.1.1 in
    record {
      values = v.constraints;
      are = record { many = two; each = constraints.each; rising = constraints.rising };
      after = values_text sizes.width lines.At v.entries ++ follows.rest;
      spelled = follows.spelled ∙ append_assoc (values_text sizes.width lines.Constraint v.constraints) (values_text sizes.width lines.At v.entries) follows.rest;
      next = record { value = v.entries; is = record { many = three; each = entries.each; rising = entries.rising }; rest = follows.rest; spelled = refl };
    }

-- what is left of a lemma of two agents after its constraints
abbrev pub SecondDue : LineSizes → ℕ → ℕ → List ℕ → Type 0
SecondDue sizes n r = ListThen Entry sizes lines.At FitsAnyhow BeforeEntry n (JointDue sizes r)

abbrev pub FirstDue : LineSizes → ℕ → ℕ → ℕ → List ℕ → Type 0
FirstDue sizes m n r = ListThen Entry sizes lines.At FitsAnyhow BeforeEntry m (SecondDue sizes n r)

-- that of a lemma of two agents
pub two_next : (sizes : LineSizes) (line : LemmaLine) (i j f m n r : ℕ) (number : Option ℕ) → line ≡ lines.Two i j f m n r number → (t : List ℕ) → FollowsFirst TwoValue parts.Two sizes line t
    → ListThen AgentConstraint sizes lines.Constraint (IsOfAgents (i ∷ j ∷ [])) InAnyOrder f (FirstDue sizes m n r) t
two_next sizes line i j f m n r number same t follows =
    let v = follows.value in
    let w = sizes.width in
    let (one, two, three, four, five, six, seven) = two_fields v.i i v.j j (length v.constraints) f (length v.first) m (length v.second) n (length v.joint) r v.list_number number (follows.first ∙ same) in
    let constraints = subst (λ (b : ℕ). AreConstraints sizes (i ∷ b ∷ []) v.constraints) two (subst (λ (a : ℕ). AreConstraints sizes (a ∷ v.j ∷ []) v.constraints) one follows.is.1.0) in
    let first = follows.is.1.1 in
    let second = follows.is.1.2 in
    let joint = follows.is.1.3 in
    let tc = values_text w lines.Constraint v.constraints in
    let tf = values_text w lines.At v.first in
    let ts = values_text w lines.At v.second in
    let tj = values_text w lines.JointAt v.joint in
    record {
      values = v.constraints;
      are = record { many = three; each = constraints.each; rising = constraints.rising };
      after = tf ++ (ts ++ (tj ++ follows.rest));
      spelled = follows.spelled ∙ append_assoc tc (tf ++ (ts ++ tj)) follows.rest ∙ ap (λ l. tc ++ l) (append_assoc tf (ts ++ tj) follows.rest ∙ ap (λ l. tf ++ l) (append_assoc ts tj follows.rest));
      next = record {
        values = v.first;
        are = record { many = four; each = first.each; rising = first.rising };
        after = ts ++ (tj ++ follows.rest);
        spelled = refl;
        next = record {
          values = v.second;
          are = record { many = five; each = second.each; rising = second.rising };
          after = tj ++ follows.rest;
          spelled = refl;
          next = record { value = v.joint; is = record { many = six; each = joint.each; rising = joint.rising }; rest = follows.rest; spelled = refl };
        };
      };
    }

-- that of a lemma by joint cells
pub never_next : (sizes : LineSizes) (line : LemmaLine) (i j count : ℕ) → line ≡ lines.Never i j count → (t : List ℕ) → FollowsFirst NeverValue parts.Never sizes line t → CellsDue sizes count t
never_next sizes line i j count same t follows =
    let v = follows.value in
    let (one, two, many) = never_fields v.i i v.j j (length v.cells) count (follows.first ∙ same) in
    record { value = v.cells; is = record { many = many; each = follows.is.1.each; rising = follows.is.1.rising }; rest = follows.rest; spelled = follows.spelled }

-- two lists of as many agents
same_agents : (sizes : LineSizes) (agents others : List ℕ) (m : ℕ) (s t : List ℕ) → AreInOrder ℕ (IsListed sizes lines.Agent FitsAnyhow) ◌<◌ m agents → AreInOrder ℕ (IsListed sizes lines.Agent FitsAnyhow) ◌<◌ m others
    → values_text sizes.width lines.Agent agents ++ s ≡ values_text sizes.width lines.Agent others ++ t → (agents ≡ others) × (s ≡ t)
same_agents sizes agents others m s t p q e =
    same_list (IsListed sizes lines.Agent FitsAnyhow) (value_text sizes.width lines.Agent) (values_apart sizes lines.Agent FitsAnyhow ◌<◌ agent_same) agents others s t p.each q.each (p.many ∙ sym q.many) e

-- the agents of a lemma by cases, and then their constraints
record CasesThen (sizes : LineSizes) (m f : ℕ) (t : List ℕ) : Type 0 where
  agents : List ℕ
  are : AreInOrder ℕ (IsListed sizes lines.Agent FitsAnyhow) ◌<◌ m agents
  after : List ℕ
  spelled : t ≡ values_text sizes.width lines.Agent agents ++ after
  next : ConstraintsDue sizes agents f after

cases_lists : (sizes : LineSizes) (line : LemmaLine) (m f : ℕ) (bound : Label) → line ≡ lines.Cases m f bound → (t : List ℕ) → FollowsFirst CasesValue parts.Cases sizes line t → CasesThen sizes m f t
cases_lists sizes line m f bound same t follows =
    let v = follows.value in
    let (one, two, three) = cases_fields (length v.agents) m (length v.constraints) f v.bound bound (follows.first ∙ same) in
    let agents = follows.is.1.0 in
    let constraints = follows.is.1.1 in
    record {
      agents = v.agents;
      are = record { many = one; each = agents.each; rising = agents.rising };
      after = values_text sizes.width lines.Constraint v.constraints ++ follows.rest;
      spelled = follows.spelled ∙ append_assoc (values_text sizes.width lines.Agent v.agents) (values_text sizes.width lines.Constraint v.constraints) follows.rest;
      next = record { value = v.constraints; is = record { many = two; each = constraints.each; rising = constraints.rising }; rest = follows.rest; spelled = refl };
    }

-- that of a lemma by cases
pub cases_next : (sizes : LineSizes) (line : LemmaLine) (m f : ℕ) (bound : Label) → line ≡ lines.Cases m f bound → (t : List ℕ) → FollowsFirst CasesValue parts.Cases sizes line t → AgentsDue sizes m t
cases_next sizes line m f bound same t follows =
    let lists = cases_lists sizes line m f bound same t follows in
    record { value = lists.agents; is = lists.are; rest = lists.after; spelled = lists.spelled }

-- and after these agents
pub cases_then : (sizes : LineSizes) (line : LemmaLine) (m f : ℕ) (bound : Label) → line ≡ lines.Cases m f bound → (agents more : List ℕ) → AreInOrder ℕ (IsListed sizes lines.Agent FitsAnyhow) ◌<◌ m agents
    → FollowsFirst CasesValue parts.Cases sizes line (values_text sizes.width lines.Agent agents ++ more) → ConstraintsDue sizes agents f more
cases_then sizes line m f bound same agents more are follows =
    let lists = cases_lists sizes line m f bound same (values_text sizes.width lines.Agent agents ++ more) follows in
    let (one, rest) = same_agents sizes agents lists.agents m more lists.after are lists.are lists.spelled in
    subst (λ (l : List ℕ). ConstraintsDue sizes agents f l) (sym rest) (subst (λ (as' : List ℕ). ConstraintsDue sizes as' f lists.after) (sym one) lists.next)

-- that of a leaf
pub leaf_next : (sizes : LineSizes) (line : LemmaLine) (m count : ℕ) (number : Option ℕ) → line ≡ lines.Leaf m count number → (t : List ℕ) → FollowsFirst LeafUses parts.Leaf sizes line t
    → ListThen ℕ sizes lines.Use FitsAnyhow ◌<◌ m (GroupsDue sizes count) t
leaf_next sizes line m count number same t follows =
    let v = follows.value in
    let (one, two, three) = leaf_fields (length v.singles) m (length v.groups) count v.list_number number (follows.first ∙ same) in
    let singles = follows.is.1.0 in
    record {
      values = v.singles;
      are = record { many = one; each = singles.each; rising = singles.rising };
      after = groups_text sizes.width v.groups ++ follows.rest;
      spelled = follows.spelled ∙ append_assoc (values_text sizes.width lines.Use v.singles) (groups_text sizes.width v.groups) follows.rest;
      next = record { value = v.groups; is = record { many = two; each = follows.is.1.1; rising = λ m n d p q. tt }; rest = follows.rest; spelled = refl };
    }

-- a part was completed
completed : (sizes : LineSizes) (a b : Option (List ℕ)) (x y : Buffered) (line : LemmaLine) (part : Part) → first_line part ≡ line → IsLaterLine sizes line → AreItsLists sizes part → Window a b x y (more_text sizes.width part) → CompletesPart sizes a b x y line part
completed sizes a b x y line part first ranged lists window = record { first = first; is = (subst (IsLaterLine sizes) (sym first) ranged, lists); window = window }

pub one_completed : (sizes : LineSizes) (a b c : Option (List ℕ)) (x y z : Buffered) (line : LemmaLine) (agent few count : ℕ) (number : Option ℕ) (constraints : List AgentConstraint) (entries : List Entry) → IsLaterLine sizes line → line ≡ lines.One agent few count number
    → AreInOrder AgentConstraint (IsListed sizes lines.Constraint (IsOfAgents (agent ∷ []))) InAnyOrder few constraints → AreInOrder Entry (IsListed sizes lines.At FitsAnyhow) BeforeEntry count entries
    → Window a b x y (values_text sizes.width lines.Constraint constraints) → Window b c y z (values_text sizes.width lines.At entries)
    → CompletesPart sizes a c x z line (parts.One (record { agent = agent; constraints = constraints; list_number = number; entries = entries }))
one_completed sizes a b c x y z line agent few count number constraints entries ranged same one two first second =
    completed sizes a c x z line (parts.One (record { agent = agent; constraints = constraints; list_number = number; entries = entries }))
    (ap (λ k. lines.One agent k (length entries) number) one.many ∙ ap (λ k. lines.One agent few k number) two.many ∙ sym same) ranged
    (record { each = one.each; rising = one.rising }, record { each = two.each; rising = two.rising })
    (Window-trans a b c x y z (values_text sizes.width lines.Constraint constraints) (values_text sizes.width lines.At entries) first second)

pub two_completed : (sizes : LineSizes) (a b c d e : Option (List ℕ)) (x y z v w : Buffered) (line : LemmaLine) (i j f m n r : ℕ) (number : Option ℕ) (constraints : List AgentConstraint) (firsts seconds : List Entry) (joints : List JointEntry) → IsLaterLine sizes line → line ≡ lines.Two i j f m n r number
    → AreInOrder AgentConstraint (IsListed sizes lines.Constraint (IsOfAgents (i ∷ j ∷ []))) InAnyOrder f constraints → AreInOrder Entry (IsListed sizes lines.At FitsAnyhow) BeforeEntry m firsts
    → AreInOrder Entry (IsListed sizes lines.At FitsAnyhow) BeforeEntry n seconds → AreInOrder JointEntry (IsListed sizes lines.JointAt FitsAnyhow) BeforeJoint r joints
    → Window a b x y (values_text sizes.width lines.Constraint constraints) → Window b c y z (values_text sizes.width lines.At firsts) → Window c d z v (values_text sizes.width lines.At seconds) → Window d e v w (values_text sizes.width lines.JointAt joints)
    → CompletesPart sizes a e x w line (parts.Two (record { i = i; j = j; constraints = constraints; list_number = number; first = firsts; second = seconds; joint = joints }))
two_completed sizes a b c d e x y z v w line i j f m n r number constraints firsts seconds joints ranged same one two three four p q s t =
    completed sizes a e x w line (parts.Two (record { i = i; j = j; constraints = constraints; list_number = number; first = firsts; second = seconds; joint = joints }))
    (ap (λ k. lines.Two i j k (length firsts) (length seconds) (length joints) number) one.many ∙ ap (λ k. lines.Two i j f k (length seconds) (length joints) number) two.many
    ∙ ap (λ k. lines.Two i j f m k (length joints) number) three.many ∙ ap (λ k. lines.Two i j f m n k number) four.many ∙ sym same) ranged
    (record { each = one.each; rising = one.rising }, record { each = two.each; rising = two.rising }, record { each = three.each; rising = three.rising }, record { each = four.each; rising = four.rising })
    (Window-trans a b e x y w (values_text sizes.width lines.Constraint constraints) (values_text sizes.width lines.At firsts ++ (values_text sizes.width lines.At seconds ++ values_text sizes.width lines.JointAt joints)) p
    (Window-trans b c e y z w (values_text sizes.width lines.At firsts) (values_text sizes.width lines.At seconds ++ values_text sizes.width lines.JointAt joints) q
    (Window-trans c d e z v w (values_text sizes.width lines.At seconds) (values_text sizes.width lines.JointAt joints) s t)))

pub cases_completed : (sizes : LineSizes) (a b c : Option (List ℕ)) (x y z : Buffered) (line : LemmaLine) (m f : ℕ) (bound : Label) (agents : List ℕ) (constraints : List AgentConstraint) → IsLaterLine sizes line → line ≡ lines.Cases m f bound
    → AreInOrder ℕ (IsListed sizes lines.Agent FitsAnyhow) ◌<◌ m agents → AreInOrder AgentConstraint (IsListed sizes lines.Constraint (IsOfAgents agents)) InAnyOrder f constraints
    → Window a b x y (values_text sizes.width lines.Agent agents) → Window b c y z (values_text sizes.width lines.Constraint constraints)
    → CompletesPart sizes a c x z line (parts.Cases (record { agents = agents; constraints = constraints; bound = bound }))
cases_completed sizes a b c x y z line m f bound agents constraints ranged same one two first second =
    completed sizes a c x z line (parts.Cases (record { agents = agents; constraints = constraints; bound = bound }))
    (ap (λ k. lines.Cases k (length constraints) bound) one.many ∙ ap (λ k. lines.Cases m k bound) two.many ∙ sym same) ranged
    (record { each = one.each; rising = one.rising }, record { each = two.each; rising = two.rising })
    (Window-trans a b c x y z (values_text sizes.width lines.Agent agents) (values_text sizes.width lines.Constraint constraints) first second)

pub leaf_completed : (sizes : LineSizes) (a b c : Option (List ℕ)) (x y z : Buffered) (line : LemmaLine) (m count : ℕ) (number : Option ℕ) (singles : List ℕ) (groups : List Group) → IsLaterLine sizes line → line ≡ lines.Leaf m count number
    → AreInOrder ℕ (IsListed sizes lines.Use FitsAnyhow) ◌<◌ m singles → AreInOrder Group (IsGroupInRange sizes) InAnyOrder count groups
    → Window a b x y (values_text sizes.width lines.Use singles) → Window b c y z (groups_text sizes.width groups)
    → CompletesPart sizes a c x z line (parts.Leaf (record { list_number = number; singles = singles; groups = groups }))
leaf_completed sizes a b c x y z line m count number singles groups ranged same one two first second =
    completed sizes a c x z line (parts.Leaf (record { list_number = number; singles = singles; groups = groups }))
    (ap (λ k. lines.Leaf k (length groups) number) one.many ∙ ap (λ k. lines.Leaf m k number) two.many ∙ sym same) ranged
    (record { each = one.each; rising = one.rising }, two.each)
    (Window-trans a b c x y z (values_text sizes.width lines.Use singles) (groups_text sizes.width groups) first second)

-- nothing that comes fits
pub nothing_fits : (Is : List ℕ → Type 0) (had : Option (List ℕ)) (failed : Bool) (x : Buffered) (fault : LinesFault) → IsTextFault fault → failed ≡ false → ((t : List ℕ) → Is t → ⊥) → Fails had had failed x Is fault
nothing_fits Is had failed x fault is works never = Fails-text had had failed x Is fault is works (record {
  pulled = [];
  source = Consumes-nil had;
  within = omega arith;
  wrong = inl (λ more begins. never ((x.bytes ++ []) ++ more) begins);
})

-- the kind of the first line tells the kind of the part
pub as_list : (sizes : LineSizes) (line : LemmaLine) (unit count : ℕ) → line ≡ lines.List unit count → (t : List ℕ) → FollowsFirst Part (λ part. part) sizes line t → FollowsFirst PriceList parts.List sizes line t
as_list sizes line unit count same t follows = by follows.value follows.first follows.is follows.rest follows.spelled
  where
    by : (part : Part) → first_line part ≡ line → IsPart sizes part → (rest : List ℕ) → t ≡ more_text sizes.width part ++ rest → FollowsFirst PriceList parts.List sizes line t
    by (parts.List value) first is rest spelled = record { value = value; first = first; is = is; rest = rest; spelled = spelled }
    by _ first is rest spelled = cc

pub as_one : (sizes : LineSizes) (line : LemmaLine) (agent few count : ℕ) (number : Option ℕ) → line ≡ lines.One agent few count number → (t : List ℕ) → FollowsFirst Part (λ part. part) sizes line t → FollowsFirst OneValue parts.One sizes line t
as_one sizes line agent few count number same t follows = by follows.value follows.first follows.is follows.rest follows.spelled
  where
    by : (part : Part) → first_line part ≡ line → IsPart sizes part → (rest : List ℕ) → t ≡ more_text sizes.width part ++ rest → FollowsFirst OneValue parts.One sizes line t
    by (parts.One value) first is rest spelled = record { value = value; first = first; is = is; rest = rest; spelled = spelled }
    by _ first is rest spelled = cc

pub as_two : (sizes : LineSizes) (line : LemmaLine) (i j f m n r : ℕ) (number : Option ℕ) → line ≡ lines.Two i j f m n r number → (t : List ℕ) → FollowsFirst Part (λ part. part) sizes line t → FollowsFirst TwoValue parts.Two sizes line t
as_two sizes line i j f m n r number same t follows = by follows.value follows.first follows.is follows.rest follows.spelled
  where
    by : (part : Part) → first_line part ≡ line → IsPart sizes part → (rest : List ℕ) → t ≡ more_text sizes.width part ++ rest → FollowsFirst TwoValue parts.Two sizes line t
    by (parts.Two value) first is rest spelled = record { value = value; first = first; is = is; rest = rest; spelled = spelled }
    by _ first is rest spelled = cc

pub as_never : (sizes : LineSizes) (line : LemmaLine) (i j count : ℕ) → line ≡ lines.Never i j count → (t : List ℕ) → FollowsFirst Part (λ part. part) sizes line t → FollowsFirst NeverValue parts.Never sizes line t
as_never sizes line i j count same t follows = by follows.value follows.first follows.is follows.rest follows.spelled
  where
    by : (part : Part) → first_line part ≡ line → IsPart sizes part → (rest : List ℕ) → t ≡ more_text sizes.width part ++ rest → FollowsFirst NeverValue parts.Never sizes line t
    by (parts.Never value) first is rest spelled = record { value = value; first = first; is = is; rest = rest; spelled = spelled }
    by _ first is rest spelled = cc

pub as_cases : (sizes : LineSizes) (line : LemmaLine) (m f : ℕ) (bound : Label) → line ≡ lines.Cases m f bound → (t : List ℕ) → FollowsFirst Part (λ part. part) sizes line t → FollowsFirst CasesValue parts.Cases sizes line t
as_cases sizes line m f bound same t follows = by follows.value follows.first follows.is follows.rest follows.spelled
  where
    by : (part : Part) → first_line part ≡ line → IsPart sizes part → (rest : List ℕ) → t ≡ more_text sizes.width part ++ rest → FollowsFirst CasesValue parts.Cases sizes line t
    by (parts.Cases value) first is rest spelled = record { value = value; first = first; is = is; rest = rest; spelled = spelled }
    by _ first is rest spelled = cc

pub as_leaf : (sizes : LineSizes) (line : LemmaLine) (m count : ℕ) (number : Option ℕ) → line ≡ lines.Leaf m count number → (t : List ℕ) → FollowsFirst Part (λ part. part) sizes line t → FollowsFirst LeafUses parts.Leaf sizes line t
as_leaf sizes line m count number same t follows = by follows.value follows.first follows.is follows.rest follows.spelled
  where
    by : (part : Part) → first_line part ≡ line → IsPart sizes part → (rest : List ℕ) → t ≡ more_text sizes.width part ++ rest → FollowsFirst LeafUses parts.Leaf sizes line t
    by (parts.Leaf value) first is rest spelled = record { value = value; first = first; is = is; rest = rest; spelled = spelled }
    by _ first is rest spelled = cc

-- a line of no other kind begins no part
pub no_part : (line : LemmaLine) → ((n : ℕ) → line ≡ lines.Prices n → ⊥) → ((u n : ℕ) → line ≡ lines.List u n → ⊥) → ((n : ℕ) → line ≡ lines.Lemmas n → ⊥) → ((i f m : ℕ) (q : Option ℕ) → line ≡ lines.One i f m q → ⊥)
    → ((i j f m n r : ℕ) (q : Option ℕ) → line ≡ lines.Two i j f m n r q → ⊥) → ((i j m : ℕ) → line ≡ lines.Never i j m → ⊥) → ((a f : ℕ) (p : Label) → line ≡ lines.Cases a f p → ⊥)
    → ((i j v t : ℕ) → line ≡ lines.Vertex i j v t → ⊥) → ((i j u v t : ℕ) → line ≡ lines.Swap i j u v t → ⊥) → ((i k : ℕ) → line ≡ lines.Cost i k → ⊥) → ((i k j m n : ℕ) → line ≡ lines.Costs i k j m n → ⊥)
    → ((i j : ℕ) → line ≡ lines.Clash i j → ⊥) → ((u g : ℕ) (q : Option ℕ) → line ≡ lines.Leaf u g q → ⊥) → (part : Part) → first_line part ≡ line → ⊥
no_part line prices list lemmas one two never cases vertex swap cost costs clash leaf (parts.Prices n) e = prices n (sym e)
no_part line prices list lemmas one two never cases vertex swap cost costs clash leaf (parts.List v) e = list v.unit (length v.prices) (sym e)
no_part line prices list lemmas one two never cases vertex swap cost costs clash leaf (parts.Lemmas n) e = lemmas n (sym e)
no_part line prices list lemmas one two never cases vertex swap cost costs clash leaf (parts.One v) e = one v.agent (length v.constraints) (length v.entries) v.list_number (sym e)
no_part line prices list lemmas one two never cases vertex swap cost costs clash leaf (parts.Two v) e = two v.i v.j (length v.constraints) (length v.first) (length v.second) (length v.joint) v.list_number (sym e)
no_part line prices list lemmas one two never cases vertex swap cost costs clash leaf (parts.Never v) e = never v.i v.j (length v.cells) (sym e)
no_part line prices list lemmas one two never cases vertex swap cost costs clash leaf (parts.Cases v) e = cases (length v.agents) (length v.constraints) v.bound (sym e)
no_part line prices list lemmas one two never cases vertex swap cost costs clash leaf (parts.Vertex i j v t) e = vertex i j v t (sym e)
no_part line prices list lemmas one two never cases vertex swap cost costs clash leaf (parts.Swap i j u v t) e = swap i j u v t (sym e)
no_part line prices list lemmas one two never cases vertex swap cost costs clash leaf (parts.Cost i k) e = cost i k (sym e)
no_part line prices list lemmas one two never cases vertex swap cost costs clash leaf (parts.Costs i k j m n) e = costs i k j m n (sym e)
no_part line prices list lemmas one two never cases vertex swap cost costs clash leaf (parts.Clash i j) e = clash i j (sym e)
no_part line prices list lemmas one two never cases vertex swap cost costs clash leaf (parts.Leaf v) e = leaf (length v.singles) (length v.groups) v.list_number (sym e)
