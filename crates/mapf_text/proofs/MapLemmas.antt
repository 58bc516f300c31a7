-- Map texts: bytes spell one grid at most, and bytes that spell one have no error.
use Rattle.std.proofs.Common.{◌≡◌, ℕ, ◌<◌, Bool, true, List, [], ◌∷◌, codes, Some, None, Contains, get_or, take, drop, map, refl, sym, subst, ◌∙◌, zero, suc, arith, inl, inr}
use Rattle.std.specs.List.{concat}
use Rattle.std.proofs.lemmas.List.{get_or-take, get_or_default, length-take-le}
use Rattle.std.proofs.lemmas.List.Elements.{Contains-append_left, Contains-append_right, Contains-get_or}
use Rattle.mapf_model.specs.Grid.{GridMap}
use Rattle.mapf_text.specs.Lines.{lines_of}
use Rattle.mapf_text.specs.Words.{is_blank_line}
use Rattle.mapf_text.specs.Numbers.{SpellsNumber}
use Rattle.mapf_text.specs.Maps.{AfterType, AfterSize, AfterMap, HasHeight, HasWidth, IsHeader, IsSize, flag_of, HasRows, HasUnknownAt, SpellsMap, HasBodyFault, HasMapFault}
use Rattle.mapf_text.specs.declared.map_fault.MapFault.{MapFault}
use Rattle.mapf_text.specs.declared.map_fault.MapFault.TheVariants.{M1, M2, M3, M4, M5, M6, M7, M8, M9, Memory}
use Rattle.mapf_text.proofs.NumberLemmas.{number-unique}

type-unique : (lines a b : List (List ℕ)) → AfterType lines a → AfterType lines b → a ≡ b
type-unique lines a b p q = let e = p.first in let f = q.first in cc

map-unique : (lines a b : List (List ℕ)) → AfterMap lines a → AfterMap lines b → a ≡ b
map-unique lines a b p q = let e = p.first in let f = q.first in cc

size-unique : (name : List ℕ) (lines : List (List ℕ)) (m n : ℕ) (a b : List (List ℕ)) → AfterSize name lines m a → AfterSize name lines n b → (m ≡ n) × (a ≡ b)
size-unique name lines m n a b p q =
    let e = p.first in
    let f = q.first in
    let line : p.line ≡ q.line = cc in
    let v = p.is_size.words in
    let w = q.is_size.words in
    let digits : p.is_size.digits ≡ q.is_size.digits = cc in
    (number-unique _ m n (subst (λ (d : List ℕ). SpellsNumber d m) digits p.is_size.number) q.is_size.number, cc)

height-unique : (lines : List (List ℕ)) (m n : ℕ) (a b : List (List ℕ)) → HasHeight lines m a → HasHeight lines n b → (m ≡ n) × (a ≡ b)
height-unique lines m n a b p q =
    let same = type-unique lines _ _ p.is_type q.is_type in
    size-unique _ q.after_type m n a b (subst (λ (l : List (List ℕ)). AfterSize (codes "height") l m a) same p.is_height) q.is_height

width-unique : (lines : List (List ℕ)) (h k m n : ℕ) (a b : List (List ℕ)) → HasWidth lines h m a → HasWidth lines k n b → (h ≡ k) × (m ≡ n) × (a ≡ b)
width-unique lines h k m n a b p q =
    let (height, after) = height-unique lines h k _ _ p.has_height q.has_height in
    let (width, rest) = size-unique _ q.after_height m n a b (subst (λ (l : List (List ℕ)). AfterSize (codes "width") l m a) after p.is_width) q.is_width in
    (height, width, rest)

header-unique : (lines : List (List ℕ)) (h k m n : ℕ) (a b : List (List ℕ)) → IsHeader lines h m a → IsHeader lines k n b → (h ≡ k) × (m ≡ n) × (a ≡ b)
header-unique lines h k m n a b p q =
    let (height, width, after) = width-unique lines h k m n _ _ p.has_width q.has_width in
    (height, width, map-unique q.after_width a b (subst (λ (l : List (List ℕ)). AfterMap l a) after p.is_map) q.is_map)

flags-unique : (a b : List Bool) → map Some a ≡ map Some b → a ≡ b
flags-unique [] [] e = refl
flags-unique [] (y ∷ b) e = cc
flags-unique (x ∷ a) [] e = cc
flags-unique (x ∷ a) (y ∷ b) e =
    let first : x ≡ y = cc in
    let tail : map Some a ≡ map Some b = cc in
    let rest = flags-unique a b tail in
    cc

known : (bytes : List ℕ) (flags : List Bool) → map flag_of bytes ≡ map Some flags → (b : ℕ) → Contains bytes b → flag_of b ≡ None → ⊥
known [] flags e b (k, within, is) none = omega arith
known (x ∷ bytes) [] e b held none = cc
known (x ∷ bytes) (f ∷ flags) e b (zero, within, is) none = let first : flag_of x ≡ Some f = cc in cc
known (x ∷ bytes) (f ∷ flags) e b (suc k, within, is) none =
    let tail : map flag_of bytes ≡ map Some flags = cc in
    known bytes flags tail b (k, omega arith, is) none

in_concat : (rows : List (List ℕ)) (row : List ℕ) (b : ℕ) → Contains rows row → Contains row b → Contains (concat rows) b
in_concat [] row b (k, below, is) held = absurd (omega arith)
in_concat (r ∷ rows) row b (zero, below, is) held = Contains-append_left r (concat rows) b (subst (λ (l : List ℕ). Contains l b) (sym is) held)
in_concat (r ∷ rows) row b (suc k, below, is) held = Contains-append_right r (concat rows) b (in_concat rows row b (k, omega arith, is) held)

all_known : (body : List (List ℕ)) (height width : ℕ) (free : List Bool) (y x : ℕ) → HasRows body height width free → y < height → HasUnknownAt (get_or body y []) x → ⊥
all_known body height width free y x rows below unknown =
    let enough = rows.enough in
    let row = get_or body y [] in
    let within = length-take-le height body enough in
    let same : get_or (take height body) y row ≡ row = get_or-take height body y row below ∙ sym (get_or_default body y [] row (omega arith)) in
    known (concat (take height body)) free rows.flags (get_or row x 0)
    (in_concat (take height body) row (get_or row x 0) (y, omega arith, same) (Contains-get_or row x 0 unknown.within)) unknown.unknown

no_body_fault : (height width : ℕ) (body : List (List ℕ)) (free : List Bool) → HasRows body height width free → ((n : ℕ) → is_blank_line (get_or (drop height body) n []) ≡ true)
    → (fault : MapFault) → HasBodyFault height width body fault → fault ≡ Memory
no_body_fault height width body free rows blank M1 h = absurd h
no_body_fault height width body free rows blank M2 h = absurd h
no_body_fault height width body free rows blank M3 h = absurd h
no_body_fault height width body free rows blank (M4 line) h = absurd h
no_body_fault height width body free rows blank M5 h = absurd h
no_body_fault height width body free rows blank (M6 y) (below, within, before, wrong) = absurd (wrong (rows.widths y below))
no_body_fault height width body free rows blank (M7 x y) (below, within, before, wide, unknown) = absurd (all_known body height width free y x rows below unknown)
no_body_fault height width body free rows blank (M8 n) (below, few, before) = let enough = rows.enough in absurd (omega arith)
no_body_fault height width body free rows blank (M9 line) (before, (n, text, at)) = let yes = blank n in let no = text.text in cc
no_body_fault height width body free rows blank Memory h = refl

in_body : (bytes : List ℕ) (grid : GridMap) → SpellsMap bytes grid → (fault : MapFault)
    → (height width : ℕ) × (body : List (List ℕ)) × IsHeader (lines_of bytes) height width body × HasBodyFault height width body fault → fault ≡ Memory
in_body bytes grid spells fault (height, width, body, header, h) =
    let (tall, wide, same) = header-unique _ _ _ _ _ _ _ header spells.header in
    let there : HasBodyFault grid.height grid.width spells.body fault =
    subst (λ (n : ℕ). HasBodyFault n grid.width spells.body fault) tall (subst (λ (n : ℕ). HasBodyFault height n spells.body fault) wide (subst (λ (l : List (List ℕ)). HasBodyFault height width l fault) same h)) in
    no_body_fault grid.height grid.width spells.body grid.free spells.rows spells.blank fault there

-- bytes that spell a grid have no error
pub map_faultless : (bytes : List ℕ) (grid : GridMap) → SpellsMap bytes grid → (fault : MapFault) → HasMapFault (lines_of bytes) fault → fault ≡ Memory
map_faultless bytes grid spells M1 none = absurd (none _ spells.header.has_width.has_height.is_type)
map_faultless bytes grid spells M2 (rest, is_type, none) =
    let has = spells.header.has_width.has_height in
    let same = type-unique _ _ _ has.is_type is_type in
    absurd (none grid.height _ (subst (λ (l : List (List ℕ)). AfterSize (codes "height") l grid.height spells.header.has_width.after_height) same has.is_height))
map_faultless bytes grid spells M3 (height, rest, has_height, in_range, none) =
    let has = spells.header.has_width in
    let (same, after) = height-unique _ _ _ _ _ has.has_height has_height in
    absurd (none grid.width _ (subst (λ (l : List (List ℕ)). AfterSize (codes "width") l grid.width spells.header.after_width) after has.is_width))
map_faultless bytes grid spells (M4 line) (inl (at, (height, rest, has_height, out))) =
    let has = spells.header.has_width in
    let (same, after) = height-unique _ _ _ _ _ has.has_height has_height in
    absurd (out (subst IsSize same has.height_in_range))
map_faultless bytes grid spells (M4 line) (inr (at, (height, width, rest, has_width, out))) =
    let (same, wide, after) = width-unique _ _ _ _ _ _ _ spells.header.has_width has_width in
    absurd (out (subst IsSize wide spells.header.width_in_range))
map_faultless bytes grid spells M5 (height, width, rest, has_width, in_range, none) =
    let (same, wide, after) = width-unique _ _ _ _ _ _ _ spells.header.has_width has_width in
    absurd (none _ (subst (λ (l : List (List ℕ)). AfterMap l spells.body) after spells.header.is_map))
map_faultless bytes grid spells (M6 y) h = in_body bytes grid spells (M6 y) h
map_faultless bytes grid spells (M7 x y) h = in_body bytes grid spells (M7 x y) h
map_faultless bytes grid spells (M8 rows) h = in_body bytes grid spells (M8 rows) h
map_faultless bytes grid spells (M9 line) h = in_body bytes grid spells (M9 line) h
map_faultless bytes grid spells Memory h = refl

-- bytes spell one grid at most
pub map_unique : (bytes : List ℕ) (g k : GridMap) → SpellsMap bytes g → SpellsMap bytes k → g ≡ k
map_unique bytes g k p q =
    let (height, width, body) = header-unique (lines_of bytes) g.height k.height g.width k.width p.body q.body p.header q.header in
    let flags : map flag_of (concat (take k.height q.body)) ≡ map Some g.free = subst (λ (l : List (List ℕ)). map flag_of (concat (take k.height l)) ≡ map Some g.free) body (rw height at p.rows.flags) in
    let free = flags-unique g.free k.free (sym flags ∙ q.rows.flags) in
    λ i. record { width = width i; height = height i; free = free i }
