-- The low bytes of a number: the end of the eight that the library gives.
use Rattle.std.proofs.Common.{◌≡◌, ℕ, zero, suc, ◌+◌, ◌-◌, ◌*◌, ◌/◌, ◌%◌, ◌^◌, ◌≤◌, [], ◌∷◌, ◌++◌, drop, sym, refl, ap, ◌∙◌, subst, arith}
use native.Mathlib.Nat.{pow-suc, mul_comm, zero-add, suc-add}
use Rattle.std.specs.Int.{byte_at, bytes_high_first, to_be_bytes, w64}
use Rattle.std.proofs.Math.Nat.{div-div-eq-div-mul}
use Rattle.values.specs.Bytes.{bytes}

byte_above : (k n : ℕ) → byte_at (suc k) n ≡ byte_at k (n / 256)
byte_above zero n = refl
byte_above (suc k) n =
    let e : 256 ^ suc (suc k) ≡ 256 * 256 ^ suc k = rw pow-suc (mul_comm _ _) in
    ap (λ m. n / m % 256) e ∙ ap (λ m. m % 256) (sym (div-div-eq-div-mul n 256 (256 ^ suc k)))

last_byte : (w n : ℕ) → bytes_high_first (suc w) n ≡ bytes_high_first w (n / 256) ++ (n % 256 ∷ [])
last_byte zero n = refl
last_byte (suc w) n = ap (λ l. byte_at (suc w) n ∷ l) (last_byte w n) ∙ ap (λ b. b ∷ (bytes_high_first w (n / 256) ++ (n % 256 ∷ []))) (byte_above w n)

high_first : (w n : ℕ) → bytes_high_first w n ≡ bytes w n
high_first zero n = refl
high_first (suc w) n = last_byte w n ∙ ap (λ l. l ++ (n % 256 ∷ [])) (high_first w (n / 256))

drop_high : (k w n : ℕ) → drop k (bytes_high_first (k + w) n) ≡ bytes_high_first w n
drop_high zero w n = rw zero-add
drop_high (suc k) w n = rw suc-add (drop_high k w n)

pub low_bytes : (w n : ℕ) → w ≤ 8 → drop (8 - w) (to_be_bytes w64 n) ≡ bytes w n
low_bytes w n h =
    let e : 8 - w + w ≡ 8 = omega arith in
    subst (λ (k : ℕ). drop (8 - w) (bytes_high_first k n) ≡ bytes w n) e (drop_high (8 - w) w n ∙ high_first w n)
