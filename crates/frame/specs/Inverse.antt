-- An identifier read and built: each is the other's inverse on its range.
use Rattle.std.specs.Prelude.{ℕ, ◌+◌, ◌*◌, ◌/◌, ◌%◌, ◌<◌, ◌≡◌, refl, leb, Bool, true, false, cond, None, Some}
use Rattle.std.proofs.Common.{sym, ap, ◌∙◌, arith, leb-false}
use Rattle.std.proofs.lemmas.Bool.{lt-leb}
use Rattle.laws.specs.Choice.{else}
use Rattle.frame.specs.declared.identifier.Identifier.{Identifier}
use Rattle.frame.specs.Identifiers.{identifier_of, id_of, built}

-- places of a number to the bases of the identifier's fields
sum_of : (id a b c d e p x y f s u : ℕ)
    → id ≡ 256 * a + u → a ≡ 256 * b + s → b ≡ 256 * c + f → c ≡ 2 * d + y → d ≡ 2 * e + x → e ≡ p
    → 67108864 * p + 33554432 * x + 16777216 * y + 65536 * f + 256 * s + u ≡ id
sum_of id a b c d e p x y f s u h₁ h₂ h₃ h₄ h₅ h₆ = omega arith

sum_back : (id : ℕ) → id < 536870912 → id_of (identifier_of id) ≡ id
sum_back id h =
    sum_of id (id / 256) (id / 65536) (id / 16777216) (id / 33554432) (id / 67108864) _ _ _ _ _ _
    (omega arith) (omega arith) (omega arith) (omega arith) (omega arith) (omega arith)

-- what was read from 29 bits builds the same identifier
pub built_of_read : (id : ℕ) → id < 536870912 → built (identifier_of id) ≡ Some id
built_of_read id h =
    sym
    (else (leb 8 (id / 67108864 % 8)) _ _ _ (lt-leb 8 (id / 67108864 % 8) (omega arith))
    (else (leb 2 (id / 33554432 % 2)) _ _ _ (lt-leb 2 (id / 33554432 % 2) (omega arith))
    (else (leb 2 (id / 16777216 % 2)) _ _ _ (lt-leb 2 (id / 16777216 % 2) (omega arith))
    (ap Some (sym (sum_back id h))))))

-- PF, PS and SA are bytes; the other fields are no larger than their places
pub record Bytes (f : Identifier) : Type 0 where
  pub pf : f.pf < 256
  pub ps : f.ps < 256
  pub sa : f.sa.0 < 256

pub record Ranged (f : Identifier) : Type 0 where
  pub priority : f.priority < 8
  pub extended : f.extended_data_page < 2
  pub page : f.data_page < 2

same_fields : (p p' x x' y y' f f' s s' u u' : ℕ) → p ≡ p' → x ≡ x' → y ≡ y' → f ≡ f' → s ≡ s' → u ≡ u'
    → ◌≡◌ {A = Identifier}
    (record { priority = p; extended_data_page = x; data_page = y; pf = f; ps = s; sa = record { 0 = u } })
    (record { priority = p'; extended_data_page = x'; data_page = y'; pf = f'; ps = s'; sa = record { 0 = u' } })
same_fields p p' x x' y y' f f' s s' u u' h₁ h₂ h₃ h₄ h₅ h₆ = rw (h₁, h₂, h₃, h₄, h₅, h₆)

-- fields in range are read back from the identifier that they build
pub read_of_id : (f : Identifier) → Bytes f → Ranged f → identifier_of (id_of f) ≡ f
read_of_id f b r =
    same_fields _ f.priority _ f.extended_data_page _ f.data_page _ f.pf _ f.ps _ f.sa.0
    (omega arith) (omega arith) (omega arith) (omega arith) (omega arith) (omega arith)

in_range : (f : Identifier) (n : ℕ) → built f ≡ Some n → Ranged f × (n ≡ id_of f)
in_range f n e = go (leb 8 f.priority) refl (leb 2 f.extended_data_page) refl (leb 2 f.data_page) refl e
  where
    go : (p : Bool) → leb 8 f.priority ≡ p → (x : Bool) → leb 2 f.extended_data_page ≡ x → (y : Bool) → leb 2 f.data_page ≡ y
        → cond p None (cond x None (cond y None (Some (id_of f)))) ≡ Some n → Ranged f × (n ≡ id_of f)
    go true a x b y c e = absurd (let z : ◌≡◌ {A = ℕ} 0 1 = cc in omega arith)
    go false a true b y c e = absurd (let z : ◌≡◌ {A = ℕ} 0 1 = cc in omega arith)
    go false a false b true c e = absurd (let z : ◌≡◌ {A = ℕ} 0 1 = cc in omega arith)
    go false a false b false c e =
        (record { priority = leb-false 8 f.priority a; extended = leb-false 2 f.extended_data_page b; page = leb-false 2 f.data_page c }, cc)

-- what was built reads back to its fields
pub read_of_built : (f : Identifier) (n : ℕ) → Bytes f → built f ≡ Some n → identifier_of n ≡ f
read_of_built f n b e =
    let r : Ranged f × (n ≡ id_of f) = in_range f n e in
    ap identifier_of r.1 ∙ read_of_id f b r.0
