-- Windows one after another, and what refuses a part of a text.
use Rattle.std.proofs.Common.{◌≡◌, ◌≢◌, ◌↔◌, ℕ, ◌+◌, ◌⊎◌, inl, inr, Bool, true, false, List, ◌++◌, length, Option, Some, None, Result, Ok, Err, IfErr, IsErrOf, refl, sym, ap, subst, ◌∙◌, arith, append_assoc, length-append}
use Rattle.std.proofs.lemmas.List.{append-nil}
use Rattle.std.specs.Io.KnownBytes.{Consumes, IsAtEnd}
use Rattle.std.proofs.KnownBytes.{Consumes-trans}
use Rattle.mapf_fields.proofs.Binds.{same_err}
use Rattle.mapf_certificate.specs.declared.cert.CertFault.TheVariants as texts
use Rattle.mapf_certificate.specs.declared.cert.LinesFault.{LinesFault}
use Rattle.mapf_certificate.specs.declared.cert.LinesFault.TheVariants.{Text, Device, TooLong}
use Rattle.mapf_certificate.specs.Buffered.{Buffered}
use Rattle.mapf_certificate.specs.Window.{Window, ComesWithin, Exceeds, Pulls, IsNotTextMemory, Refuses, Fails, IsTextFault, IsNoTextFault}

-- what comes after two windows
after_both : (x p q t y : List ℕ) → x ++ p ≡ t ++ y → x ++ (p ++ q) ≡ t ++ (y ++ q)
after_both x p q t y e = sym (append_assoc x p q) ∙ ap (λ l. l ++ q) e ∙ append_assoc t y q

pub Window-trans : (a b c : Option (List ℕ)) (x y z : Buffered) (t u : List ℕ) → Window a b x y t → Window b c y z u → Window a c x z (t ++ u)
Window-trans a b c x y z t u first second = record {
  pulled = first.pulled ++ second.pulled;
  source = Consumes-trans a b c first.pulled second.pulled first.source second.source;
  same = after_both x.bytes first.pulled second.pulled t y.bytes first.same ∙ ap (λ l. t ++ l) second.same ∙ sym (append_assoc t u z.bytes);
  within = omega (arith, first.within, second.within, length-append first.pulled second.pulled);
}

pub Exceeds-after : (a b c : Option (List ℕ)) (x y : Buffered) (t : List ℕ) → Window a b x y t → Exceeds b c y → Exceeds a c x
Exceeds-after a b c x y t first more = record {
  pulled = first.pulled ++ more.pulled;
  source = Consumes-trans a b c first.pulled more.pulled first.source more.source;
  beyond = omega (arith, first.within, more.beyond, length-append first.pulled more.pulled);
  few = omega (arith, first.within, more.few, length-append first.pulled more.pulled);
}

-- what came in a window was left of the limit
pub Window-within : (a b : Option (List ℕ)) (x y : Buffered) (t : List ℕ) → Window a b x y t → ComesWithin a b x
Window-within a b x y t window = record { pulled = window.pulled; source = window.source; within = omega (arith, window.within) }

pub ComesWithin-after : (a b c : Option (List ℕ)) (x y : Buffered) (t : List ℕ) → Window a b x y t → ComesWithin b c y → ComesWithin a c x
ComesWithin-after a b c x y t first more = record {
  pulled = first.pulled ++ more.pulled;
  source = Consumes-trans a b c first.pulled more.pulled first.source more.source;
  within = omega (arith, first.within, more.within, length-append first.pulled more.pulled);
}

-- what doesn't follow refuses the whole
pub Refuses-after : (a b c : Option (List ℕ)) (x y : Buffered) (t : List ℕ) (Is After : List ℕ → Type 0) → Window a b x y t → ((more : List ℕ) → Is (t ++ more) → After more) → Refuses b c y After → Refuses a c x Is
Refuses-after a b c x y t Is After first follows refused = record {
  pulled = first.pulled ++ refused.pulled;
  source = Consumes-trans a b c first.pulled refused.pulled first.source refused.source;
  within = omega (arith, first.within, refused.within, length-append first.pulled refused.pulled);
  wrong = by refused.wrong;
}
  where
    all : x.bytes ++ (first.pulled ++ refused.pulled) ≡ t ++ (y.bytes ++ refused.pulled)
    all = after_both x.bytes first.pulled refused.pulled t y.bytes first.same

    by : ((more : List ℕ) → After ((y.bytes ++ refused.pulled) ++ more) → ⊥) ⊎ (IsAtEnd c × (After (y.bytes ++ refused.pulled) → ⊥))
        → ((more : List ℕ) → Is ((x.bytes ++ (first.pulled ++ refused.pulled)) ++ more) → ⊥) ⊎ (IsAtEnd c × (Is (x.bytes ++ (first.pulled ++ refused.pulled)) → ⊥))
    by (inl never) = inl (λ more is. never more (follows ((y.bytes ++ refused.pulled) ++ more) (subst Is (ap (λ l. l ++ more) all ∙ append_assoc t (y.bytes ++ refused.pulled) more) is)))
    by (inr (ended, never)) = inr (ended, λ is. never (follows (y.bytes ++ refused.pulled) (subst Is all is)))

pub Refuses-weaker : (a b : Option (List ℕ)) (x : Buffered) (Is Wider : List ℕ → Type 0) → ((t : List ℕ) → Is t → Wider t) → Refuses a b x Wider → Refuses a b x Is
Refuses-weaker a b x Is Wider wider refused = record { pulled = refused.pulled; source = refused.source; within = refused.within; wrong = by refused.wrong }
  where
    by : ((more : List ℕ) → Wider ((x.bytes ++ refused.pulled) ++ more) → ⊥) ⊎ (IsAtEnd b × (Wider (x.bytes ++ refused.pulled) → ⊥)) → ((more : List ℕ) → Is ((x.bytes ++ refused.pulled) ++ more) → ⊥) ⊎ (IsAtEnd b × (Is (x.bytes ++ refused.pulled) → ⊥))
    by (inl never) = inl (λ more is. never more (wider ((x.bytes ++ refused.pulled) ++ more) is))
    by (inr (ended, never)) = inr (ended, λ is. never (wider (x.bytes ++ refused.pulled) is))

-- what was taken begins no such text
pub Refuses-taken : (a b : Option (List ℕ)) (x y : Buffered) (t : List ℕ) (Is : List ℕ → Type 0) → Window a b x y t → ((more : List ℕ) → Is (t ++ more) → ⊥) → Refuses a b x Is
Refuses-taken a b x y t Is first never = record {
  pulled = first.pulled;
  source = first.source;
  within = omega (arith, first.within);
  wrong = inl (λ more is. never (y.bytes ++ more) (subst Is (ap (λ l. l ++ more) first.same ∙ append_assoc t y.bytes more) is));
}

pub Fails-text : (a b : Option (List ℕ)) (failed : Bool) (x : Buffered) (Is : List ℕ → Type 0) (fault : LinesFault) → IsTextFault fault → failed ≡ false → Refuses a b x Is → Fails a b failed x Is fault
Fails-text a b failed x Is (Text texts.Memory) is works refused = absurd is
Fails-text a b failed x Is (Text _) is works refused = (works, refused)
Fails-text a b failed x Is _ is works refused = absurd is

pub Fails-after : (a b c : Option (List ℕ)) (failed : Bool) (x y : Buffered) (t : List ℕ) (Is After : List ℕ → Type 0) (fault : LinesFault) → Window a b x y t → ((more : List ℕ) → Is (t ++ more) → After more)
    → Fails b c failed y After fault → Fails a c failed x Is fault
Fails-after a b c failed x y t Is After (Text texts.Memory) first follows refused = refused
Fails-after a b c failed x y t Is After (Text _) first follows refused = (refused.0, Refuses-after a b c x y t Is After first follows refused.1)
Fails-after a b c failed x y t Is After TooLong first follows refused = (refused.0, Exceeds-after a b c x y t first refused.1)
Fails-after a b c failed x y t Is After _ first follows refused = (refused.0, ComesWithin-after a b c x y t first refused.1)

pub Fails-weaker : (a b : Option (List ℕ)) (failed : Bool) (x : Buffered) (Is Wider : List ℕ → Type 0) (fault : LinesFault) → ((t : List ℕ) → Is t → Wider t) → Fails a b failed x Wider fault → Fails a b failed x Is fault
Fails-weaker a b failed x Is Wider (Text texts.Memory) wider refused = refused
Fails-weaker a b failed x Is Wider (Text _) wider refused = (refused.0, Refuses-weaker a b x Is Wider wider refused.1)
Fails-weaker a b failed x Is Wider _ wider refused = refused

-- a source that reports its bytes still reports them after a read
pub Window-known : (a b : Option (List ℕ)) (x y : Buffered) (t bytes : List ℕ) → Window a b x y t → a ≡ Some bytes → (rest : List ℕ) × (b ≡ Some rest) × (x.bytes ++ bytes ≡ t ++ (y.bytes ++ rest)) × (length bytes + y.left ≡ length rest + x.left)
Window-known a b x y t bytes first known = by b (subst (λ o. Consumes o b first.pulled) known first.source)
  where
    by : (o : Option (List ℕ)) → Consumes (Some bytes) o first.pulled → (rest : List ℕ) × (o ≡ Some rest) × (x.bytes ++ bytes ≡ t ++ (y.bytes ++ rest)) × (length bytes + y.left ≡ length rest + x.left)
    by None c = absurd c
    by (Some rest) c = (rest, refl, ap (λ l. x.bytes ++ l) c ∙ after_both x.bytes first.pulled rest t y.bytes first.same, omega (arith, first.within, ap length c, length-append first.pulled rest))

-- what comes isn't refused
pub Refuses-not : (a b : Option (List ℕ)) (x : Buffered) (Is : List ℕ → Type 0) (bytes : List ℕ) → Refuses a b x Is → a ≡ Some bytes → Is (x.bytes ++ bytes) → ⊥
Refuses-not a b x Is bytes refused known is = by b (subst (λ o. Consumes o b refused.pulled) known refused.source) refused.wrong
  where
    by : (o : Option (List ℕ)) → Consumes (Some bytes) o refused.pulled → ((more : List ℕ) → Is ((x.bytes ++ refused.pulled) ++ more) → ⊥) ⊎ (IsAtEnd o × (Is (x.bytes ++ refused.pulled) → ⊥)) → ⊥
    by None c wrong = absurd c
    by (Some rest) c (inl never) = never rest (subst Is (ap (λ l. x.bytes ++ l) c ∙ sym (append_assoc x.bytes refused.pulled rest)) is)
    by (Some rest) c (inr (ended, never)) = never (subst Is (ap (λ l. x.bytes ++ l) (c ∙ ap (λ l. refused.pulled ++ l) ended ∙ append-nil refused.pulled)) is)

pub Fails-not : (a b : Option (List ℕ)) (failed : Bool) (x : Buffered) (Is : List ℕ → Type 0) (fault : LinesFault) (bytes : List ℕ) → Fails a b failed x Is fault → a ≡ Some bytes → Is (x.bytes ++ bytes) → IsNoTextFault fault
Fails-not a b failed x Is (Text texts.Memory) bytes refused known is = absurd refused
Fails-not a b failed x Is (Text _) bytes refused known is = absurd (Refuses-not a b x Is bytes refused.1 known is)
Fails-not a b failed x Is _ bytes refused known is = tt

-- an error that is passed on
pub err_passed : {A E : Type 0} (r : Result A E) (P : E → Type 0) (e : E) → (y : E) × (r ≡ Err y) × (y ≡ e) → P e → IfErr r P
err_passed {A = A} {E = E} r P e (y, is, same) holds = let Q : Result A E → Type 0 = λ s. IfErr s P in subst Q (sym is) (subst P (sym same) holds)

-- a failed call answers `Device` just where its source has failed
pub device_if_fails : {A : Type 0} (a b : Option (List ℕ)) (failed : Bool) (x : Buffered) (Is : List ℕ → Type 0) (fault : LinesFault) → Fails a b failed x Is fault → IsErrOf {T = A} (Err fault) Device ↔ (failed ≡ true)
device_if_fails a b failed x Is (Text texts.Memory) fails = absurd fails
device_if_fails a b failed x Is Device fails = (λ e. fails.0, λ e. refl)
device_if_fails a b failed x Is _ fails = (λ e. cc, λ e. cc (fails.0))

pulls_within : {A : Type 0} (a b : Option (List ℕ)) (x : Buffered) (fault : LinesFault) → fault ≢ TooLong → ComesWithin a b x → Pulls a b x.left (IsErrOf {T = A} (Err fault) TooLong)
pulls_within a b x fault other comes = record { came = comes.pulled; source = comes.source; few = omega (arith, comes.within); beyond = (λ e. absurd (other (same_err fault TooLong e)), λ h. absurd (omega (arith, comes.within))) }

pub refuses_within : (a b : Option (List ℕ)) (x : Buffered) (Is : List ℕ → Type 0) → Refuses a b x Is → ComesWithin a b x
refuses_within a b x Is refused = record { pulled = refused.pulled; source = refused.source; within = refused.within }

-- and `TooLong` just where too many bytes came
pub pulls_if_fails : {A : Type 0} (a b : Option (List ℕ)) (failed : Bool) (x : Buffered) (Is : List ℕ → Type 0) (fault : LinesFault) → Fails a b failed x Is fault → Pulls a b x.left (IsErrOf {T = A} (Err fault) TooLong)
pulls_if_fails a b failed x Is (Text texts.Memory) fails = absurd fails
pulls_if_fails a b failed x Is (Text _) fails = pulls_within a b x _ (λ e. cc) (refuses_within a b x Is fails.1)
pulls_if_fails a b failed x Is TooLong fails = record { came = fails.1.pulled; source = fails.1.source; few = fails.1.few; beyond = (λ e. fails.1.beyond, λ h. refl) }
pulls_if_fails a b failed x Is _ fails = pulls_within a b x _ (λ e. cc) fails.1

-- a window is no such answer
pub pulls_in_window : {A : Type 0} (a b : Option (List ℕ)) (x y : Buffered) (t : List ℕ) (answer : A) → Window a b x y t → Pulls a b x.left (IsErrOf {T = A} (Ok answer) TooLong)
pulls_in_window a b x y t answer window = record { came = window.pulled; source = window.source; few = omega (arith, window.within); beyond = (λ e. cc, λ h. absurd (omega (arith, window.within))) }

pub no_inner_memory : (a b : Option (List ℕ)) (failed : Bool) (x : Buffered) (Is : List ℕ → Type 0) (fault : LinesFault) → Fails a b failed x Is fault → IsNotTextMemory fault
no_inner_memory a b failed x Is fault fails = λ e. subst (Fails a b failed x Is) e fails
