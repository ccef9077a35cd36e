-- The padded message, by how long it is and by its bytes: those of the message, the byte 128, the bytes 0, and those of the length.
use Rattle.std.proofs.Common.{◌≡◌, ℕ, zero, suc, ◌+◌, ◌-◌, ◌*◌, ◌/◌, ◌%◌, ◌^◌, ◌<◌, ◌≤◌, List, ◌∷◌, ◌++◌, length, get_or, replicate, sym, ap, ◌∙◌, subst, le_of_suc-le-suc, not-suc-le-zero, mul_comm, arith, length-append, get_or-append-add}
use lib.ListN.{length-replicate, get_or-replicate, get_or-append}
use lib.Seq.{get_or-append_seam}
use lib.Pow.{field, mod-mod-pow}
use Rattle.sha256.specs.Message.{bytes_of, zeros, padded}

long : (bytes : List ℕ) → length (padded bytes) ≡ length bytes + zeros (length bytes) + 9
unfolding padded bytes_of
long bytes = simp (length-append, length-replicate) (omega arith)

-- the standard's equation for k, the number of bits 0, seven of which are in the byte 128: l + 1 + k leaves 448 modulo 512, and no smaller k does
pub least : (n : ℕ) → ((8 * n + 1 + (8 * zeros n + 7)) % 512 ≡ 448) × (8 * zeros n + 7 < 512)
unfolding zeros
least n = omega arith

-- whole blocks of 64 bytes, and the fewest that hold the message, the byte 128 and the eight bytes of the length
pub padded-length : (bytes : List ℕ) → length (padded bytes) ≡ (length bytes + 8 + 64) / 64 * 64
unfolding zeros
padded-length bytes = omega (arith, long bytes)

pub of-message : (bytes : List ℕ) (i : ℕ) → i < length bytes → get_or (padded bytes) i 0 ≡ get_or bytes i 0
unfolding padded
of-message bytes i here = get_or-append bytes _ 0 i here

pub behind-message : (bytes : List ℕ) → get_or (padded bytes) (length bytes) 0 ≡ 128
unfolding padded
behind-message bytes = get_or-append_seam bytes 128 _ 0

-- the bytes behind the byte 128
rest : List ℕ → List ℕ
rest bytes = replicate (zeros (length bytes)) 0 ++ bytes_of 8 (8 * length bytes)

in_rest : (bytes : List ℕ) (i j : ℕ) → i ≡ length bytes + suc j → get_or (padded bytes) i 0 ≡ get_or (rest bytes) j 0
unfolding padded rest
in_rest bytes i j at = ap (λ (k : ℕ). get_or (padded bytes) k 0) at ∙ get_or-append-add bytes (128 ∷ rest bytes) (suc j) 0

zero-in-rest : (bytes : List ℕ) (j : ℕ) → j < zeros (length bytes) → get_or (rest bytes) j 0 ≡ 0
unfolding rest
zero-in-rest bytes j within =
    let z = zeros (length bytes) in
    let among : j < length {A = ℕ} (replicate z 0) = simp length-replicate within in
    get_or-append (replicate z 0) (bytes_of 8 (8 * length bytes)) 0 j among ∙ get_or-replicate z j 0 0 within

pub of-zeros : (bytes : List ℕ) (i : ℕ) → length bytes < i → i + 8 < length (padded bytes) → get_or (padded bytes) i 0 ≡ 0
of-zeros bytes i here before =
    let j = i - length bytes - 1 in
    in_rest bytes i j (omega arith) ∙ zero-in-rest bytes j (omega (arith, long bytes))

-- byte j of k is the one with k - 1 - j behind it
byte_of : (k l j : ℕ) → j < k → get_or (bytes_of k l) j 0 ≡ l / 2 ^ (8 * (k - 1 - j)) % 256
unfolding bytes_of
byte_of zero l j here = absurd (not-suc-le-zero here)
byte_of (suc k) l zero here = let e : k ≡ suc k - 1 - 0 = omega arith in ap (λ (m : ℕ). l / 2 ^ (8 * m) % 256) e
byte_of (suc k) l (suc j) here =
    let e : k - 1 - j ≡ suc k - 1 - suc j = omega arith in
    byte_of k l j (le_of_suc-le-suc here) ∙ ap (λ (m : ℕ). l / 2 ^ (8 * m) % 256) e

-- a byte of the length with that many bytes behind it
of_length : (bytes : List ℕ) (i behind : ℕ) → i + behind + 1 ≡ length (padded bytes) → behind < 8
    → get_or (padded bytes) i 0 ≡ 8 * length bytes / 2 ^ (8 * behind) % 256
unfolding rest
of_length bytes i behind place few =
    let n = length bytes in
    let z = zeros n in
    let at : z + (7 - behind) ≡ length {A = ℕ} (replicate z 0) + (7 - behind) = simp length-replicate in
    let back : 8 - 1 - (7 - behind) ≡ behind = omega arith in
    in_rest bytes i (z + (7 - behind)) (omega (arith, long bytes))
    ∙ ap (λ (k : ℕ). get_or (rest bytes) k 0) at
    ∙ get_or-append-add (replicate z 0) (bytes_of 8 (8 * n)) (7 - behind) 0
    ∙ byte_of 8 (8 * n) (7 - behind) (omega arith)
    ∙ ap (λ (k : ℕ). 8 * n / 2 ^ (8 * k) % 256) back

-- a byte among the eight lowest is not changed by what lies above them
byte-modulo : (x k : ℕ) → k + 8 ≤ 64 → x % 2 ^ 64 / 2 ^ k % 256 ≡ x / 2 ^ k % 256
byte-modulo x k fits =
    let j = 64 - 8 - k in
    let e : (j + 8) + k ≡ 64 = omega arith in
    subst (λ (w : ℕ). x % 2 ^ w / 2 ^ k % 256 ≡ x / 2 ^ k % 256) e (ap (λ (y : ℕ). y % 256) (field x (j + 8) k) ∙ mod-mod-pow (x / 2 ^ k) j 8)

-- the same byte of the length, by a length that was shifted within 64 bits
pub of-shifted-length : (bytes : List ℕ) (i behind : ℕ) → i + behind + 1 ≡ length (padded bytes) → behind < 8
    → length bytes * 8 % 2 ^ 64 / 2 ^ (8 * behind) % 256 ≡ get_or (padded bytes) i 0
of-shifted-length bytes i behind place few =
    let n = length bytes in
    byte-modulo (n * 8) (8 * behind) (omega arith)
    ∙ ap (λ (x : ℕ). x / 2 ^ (8 * behind) % 256) (mul_comm n 8)
    ∙ sym (of_length bytes i behind place few)
