-- Bytes put into the front of a list, from the last to the first.
use Rattle.std.specs.Prelude.{◌≡◌, ℕ, zero, suc, ◌+◌, ◌-◌, ◌*◌, ◌/◌, ◌%◌, ◌<◌, ◌≤◌, List, [], ◌∷◌, ◌++◌, length, drop, Decides, ◌==◌, slice_set, refl}
use Rattle.std.proofs.Common.{sym, ap, ◌∙◌, sub-one, arith}
use Rattle.std.proofs.lemmas.List.{append_assoc, length-set, drop-set, same_from_push}
use Rattle.std.proofs.lemmas.Bool.Decides.{Decides-eqb, Decides-like}
use Rattle.values.specs.Bytes.{bytes}

-- out with the w low bytes of n in its front
abbrev pub put : ℕ → ℕ → List ℕ → List ℕ
put zero n out = out
put (suc w) n out = put w (n / 256) (slice_set out w (n % 256))

pub put_more : (i n : ℕ) (out : List ℕ) → 0 < i → put i n out ≡ put (i - 1) (n / 256) (slice_set out (i - 1) (n % 256))
put_more zero n out h = absurd (omega arith)
put_more (suc w) n out h = rw sub-one

pub put_none : (i n : ℕ) (out : List ℕ) → i ≤ 0 → put i n out ≡ out
put_none zero n out h = refl
put_none (suc w) n out h = absurd (omega arith)

pub put_bytes : (w n : ℕ) (out : List ℕ) → w ≤ length out → put w n out ≡ bytes w n ++ drop w out
put_bytes zero n out h = refl
put_bytes (suc w) n out h =
    let x = n % 256 in
    let long : length (slice_set out w x) ≡ length out = length-set out w x in
    put_bytes w (n / 256) (slice_set out w x) (omega arith)
    ∙ ap (λ zs. bytes w (n / 256) ++ zs) (drop-set out w x (omega arith))
    ∙ ap (λ j. bytes w (n / 256) ++ (x ∷ drop j out)) (let e : w + 1 ≡ suc w = omega arith in e)
    ∙ sym (append_assoc (bytes w (n / 256)) (x ∷ []) (drop (suc w) out))

-- one more than the largest number of w bytes
abbrev pub room : ℕ → ℕ
room zero = 1
room (suc w) = 256 * room w

bytes_same : (w m n : ℕ) → m < room w → n < room w → bytes w m ≡ bytes w n → m ≡ n
bytes_same zero m n hm hn e = omega arith
bytes_same (suc w) m n hm hn e =
    let a = same_from_push (bytes w (m / 256)) (bytes w (n / 256)) (m % 256) (n % 256) e in
    let b = bytes_same w (m / 256) (n / 256) (omega arith) (omega arith) a.0 in
    omega (arith, a.1, b)

-- w bytes tell a number that has room in them
pub bytes_tell : (w m n : ℕ) → m < room w → n < room w → Decides (m == n) (bytes w m ≡ bytes w n)
bytes_tell w m n hm hn = Decides-like (m == n) (ap (bytes w)) (bytes_same w m n hm hn) (Decides-eqb m n)
