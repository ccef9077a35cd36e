-- FIPS 180-4, section 6.2.2: the message schedule, the rounds, and the sum of a message.
use Rattle.std.specs.Prelude.{◌≡◌, ℕ, zero, suc, ◌+◌, ◌-◌, ◌*◌, ◌/◌, List, [], ◌∷◌, ◌++◌, length, nat_lt, slice_index, if◌then◌else◌, refl}
use Rattle.sha256.specs.declared.State.{State}
use Rattle.sha256.specs.Words.{◌⊞◌, rotr, Ch, Maj, Σ0, Σ1, σ0, σ1}
use Rattle.sha256.specs.Constants.{K, H0}
use Rattle.sha256.specs.Message.{padded, zeros, bytes_of, word_of}

-- W_t of block i, by the words w before it: M_t for t up to 15, and then σ1 (W_t-2) + W_t-7 + σ0 (W_t-15) + W_t-16
unfoldable pub next_word : List ℕ → ℕ → List ℕ → ℕ → ℕ
next_word p i w t =
    if nat_lt t 16
    then word_of p (16 * i + t)
    else (σ1 (slice_index w (t - 2)) ⊞ slice_index w (t - 7) ⊞ σ0 (slice_index w (t - 15)) ⊞ slice_index w (t - 16))

-- the words before W_t, and W_t
abbrev pub extended : List ℕ → ℕ → List ℕ → ℕ → List ℕ
extended p i w t = w ++ (next_word p i w t ∷ [])

-- the first t words of the message schedule of block i
unfoldable pub schedule : List ℕ → ℕ → ℕ → List ℕ
schedule p i zero = []
schedule p i (suc t) = extended p i (schedule p i t) t

-- T1, with K_t and W_t: h + Σ1 (e) + Ch (e, f, g) + K_t + W_t
unfoldable pub T1 : State → ℕ → ℕ → ℕ
T1 s k w = s.h ⊞ Σ1 s.e ⊞ Ch s.e s.f s.g ⊞ k ⊞ w

-- T2: Σ0 (a) + Maj (a, b, c)
unfoldable pub T2 : State → ℕ
T2 s = Σ0 s.a ⊞ Maj s.a s.b s.c

-- the working variables after one round
unfoldable pub round : State → ℕ → ℕ → State
round s k w =
    record {
      a = T1 s k w ⊞ T2 s;
      b = s.a;
      c = s.b;
      d = s.c;
      e = s.d ⊞ T1 s k w;
      f = s.e;
      g = s.f;
      h = s.g;
    }

-- the working variables after t rounds
unfoldable pub rounds : List ℕ → ℕ → State → State
rounds w zero s = s
rounds w (suc t) s = round (rounds w t s) (slice_index K t) (slice_index w t)

-- the working variables v added to the hash value s before
unfoldable pub added : State → State → State
added v s =
    record {
      a = v.a ⊞ s.a;
      b = v.b ⊞ s.b;
      c = v.c ⊞ s.c;
      d = v.d ⊞ s.d;
      e = v.e ⊞ s.e;
      f = v.f ⊞ s.f;
      g = v.g ⊞ s.g;
      h = v.h ⊞ s.h;
    }

-- the hash value after block i, by the one before it
unfoldable pub compressed : List ℕ → ℕ → State → State
compressed p i s = added (rounds (schedule p i 64) 64 s) s

-- the hash value after i blocks of the padded message
unfoldable pub hash : List ℕ → ℕ → State
hash p zero = H0
hash p (suc i) = compressed p i (hash p i)

abbrev pub words_of : State → List ℕ
words_of s = s.a ∷ s.b ∷ s.c ∷ s.d ∷ s.e ∷ s.f ∷ s.g ∷ s.h ∷ []

-- the sum of a message: the hash value after all the blocks of 64 bytes of the padded message
unfoldable pub sum_of : List ℕ → List ℕ
sum_of bytes = words_of (hash (padded bytes) (length (padded bytes) / 64))

-- the sum of no bytes, and that of "abc", the standard's example
empty : sum_of [] ≡ 0xe3b0_c442 ∷ 0x98fc_1c14 ∷ 0x9afb_f4c8 ∷ 0x996f_b924 ∷ 0x27ae_41e4 ∷ 0x649b_934c ∷ 0xa495_991b ∷ 0x7852_b855 ∷ []
unfolding sum_of hash compressed added rounds round T1 T2 schedule next_word word_of padded zeros bytes_of Ch Maj Σ0 Σ1 σ0 σ1 rotr K H0
empty = refl

abc : sum_of (97 ∷ 98 ∷ 99 ∷ []) ≡ 0xba78_16bf ∷ 0x8f01_cfea ∷ 0x4141_40de ∷ 0x5dae_2223 ∷ 0xb003_61a3 ∷ 0x9617_7a9c ∷ 0xb410_ff61 ∷ 0xf200_15ad ∷ []
unfolding sum_of hash compressed added rounds round T1 T2 schedule next_word word_of padded zeros bytes_of Ch Maj Σ0 Σ1 σ0 σ1 rotr K H0
abc = refl
