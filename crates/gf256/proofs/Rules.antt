-- The rules of the tables, each by one computed test.
use mathlib.Core.Path.{◌≡◌, refl, sym, ap, ◌∙◌, subst}
use mathlib.Core.Logic.{◌⊎◌, inl, inr, ⊎_elim}
use mathlib.Core.Bool.{Bool, true}
use mathlib.Core.List.{List, [], ◌∷◌}
use Prim.Native.Nat.{ℕ, zero, suc, ◌+◌, ◌<◌}
use native.Mathlib.Nat.{add-zero, add-suc, suc-add, zero-add}
use native.Mathlib.Omega.{arith}
use lib.Bits.{bit_xor}
use lib.Dec.{T, eqb, ltb, eqb→eq, ltb→lt}
use lib.ListN.{length, get_or}
use Rattle.account.specs.Field.{power}
use Rattle.account.specs.Product.{product}
use Rattle.account.proofs.Test.{both, both_left, both_right, or, or_one, upto, upto_at}
use Rattle.gf256.specs.Gf256.{gf256, times, IsLog}
use Rattle.gf256.specs.Tables.{Powers, Logs, Halves}

-- ---- the tables, as the program has them

abbrev pub powers_list : List ℕ
powers_list =
    1 ∷ 2 ∷ 4 ∷ 8 ∷ 16 ∷ 32 ∷ 64 ∷ 128 ∷ 29 ∷ 58 ∷ 116 ∷ 232 ∷ 205 ∷ 135 ∷ 19 ∷ 38
    ∷ 76 ∷ 152 ∷ 45 ∷ 90 ∷ 180 ∷ 117 ∷ 234 ∷ 201 ∷ 143 ∷ 3 ∷ 6 ∷ 12 ∷ 24 ∷ 48 ∷ 96 ∷ 192
    ∷ 157 ∷ 39 ∷ 78 ∷ 156 ∷ 37 ∷ 74 ∷ 148 ∷ 53 ∷ 106 ∷ 212 ∷ 181 ∷ 119 ∷ 238 ∷ 193 ∷ 159 ∷ 35
    ∷ 70 ∷ 140 ∷ 5 ∷ 10 ∷ 20 ∷ 40 ∷ 80 ∷ 160 ∷ 93 ∷ 186 ∷ 105 ∷ 210 ∷ 185 ∷ 111 ∷ 222 ∷ 161
    ∷ 95 ∷ 190 ∷ 97 ∷ 194 ∷ 153 ∷ 47 ∷ 94 ∷ 188 ∷ 101 ∷ 202 ∷ 137 ∷ 15 ∷ 30 ∷ 60 ∷ 120 ∷ 240
    ∷ 253 ∷ 231 ∷ 211 ∷ 187 ∷ 107 ∷ 214 ∷ 177 ∷ 127 ∷ 254 ∷ 225 ∷ 223 ∷ 163 ∷ 91 ∷ 182 ∷ 113 ∷ 226
    ∷ 217 ∷ 175 ∷ 67 ∷ 134 ∷ 17 ∷ 34 ∷ 68 ∷ 136 ∷ 13 ∷ 26 ∷ 52 ∷ 104 ∷ 208 ∷ 189 ∷ 103 ∷ 206
    ∷ 129 ∷ 31 ∷ 62 ∷ 124 ∷ 248 ∷ 237 ∷ 199 ∷ 147 ∷ 59 ∷ 118 ∷ 236 ∷ 197 ∷ 151 ∷ 51 ∷ 102 ∷ 204
    ∷ 133 ∷ 23 ∷ 46 ∷ 92 ∷ 184 ∷ 109 ∷ 218 ∷ 169 ∷ 79 ∷ 158 ∷ 33 ∷ 66 ∷ 132 ∷ 21 ∷ 42 ∷ 84
    ∷ 168 ∷ 77 ∷ 154 ∷ 41 ∷ 82 ∷ 164 ∷ 85 ∷ 170 ∷ 73 ∷ 146 ∷ 57 ∷ 114 ∷ 228 ∷ 213 ∷ 183 ∷ 115
    ∷ 230 ∷ 209 ∷ 191 ∷ 99 ∷ 198 ∷ 145 ∷ 63 ∷ 126 ∷ 252 ∷ 229 ∷ 215 ∷ 179 ∷ 123 ∷ 246 ∷ 241 ∷ 255
    ∷ 227 ∷ 219 ∷ 171 ∷ 75 ∷ 150 ∷ 49 ∷ 98 ∷ 196 ∷ 149 ∷ 55 ∷ 110 ∷ 220 ∷ 165 ∷ 87 ∷ 174 ∷ 65
    ∷ 130 ∷ 25 ∷ 50 ∷ 100 ∷ 200 ∷ 141 ∷ 7 ∷ 14 ∷ 28 ∷ 56 ∷ 112 ∷ 224 ∷ 221 ∷ 167 ∷ 83 ∷ 166
    ∷ 81 ∷ 162 ∷ 89 ∷ 178 ∷ 121 ∷ 242 ∷ 249 ∷ 239 ∷ 195 ∷ 155 ∷ 43 ∷ 86 ∷ 172 ∷ 69 ∷ 138 ∷ 9
    ∷ 18 ∷ 36 ∷ 72 ∷ 144 ∷ 61 ∷ 122 ∷ 244 ∷ 245 ∷ 247 ∷ 243 ∷ 251 ∷ 235 ∷ 203 ∷ 139 ∷ 11 ∷ 22
    ∷ 44 ∷ 88 ∷ 176 ∷ 125 ∷ 250 ∷ 233 ∷ 207 ∷ 131 ∷ 27 ∷ 54 ∷ 108 ∷ 216 ∷ 173 ∷ 71 ∷ 142 ∷ []

abbrev pub logs_list : List ℕ
logs_list =
    0 ∷ 1 ∷ 25 ∷ 2 ∷ 50 ∷ 26 ∷ 198 ∷ 3 ∷ 223 ∷ 51 ∷ 238 ∷ 27 ∷ 104 ∷ 199 ∷ 75 ∷ 4
    ∷ 100 ∷ 224 ∷ 14 ∷ 52 ∷ 141 ∷ 239 ∷ 129 ∷ 28 ∷ 193 ∷ 105 ∷ 248 ∷ 200 ∷ 8 ∷ 76 ∷ 113 ∷ 5
    ∷ 138 ∷ 101 ∷ 47 ∷ 225 ∷ 36 ∷ 15 ∷ 33 ∷ 53 ∷ 147 ∷ 142 ∷ 218 ∷ 240 ∷ 18 ∷ 130 ∷ 69 ∷ 29
    ∷ 181 ∷ 194 ∷ 125 ∷ 106 ∷ 39 ∷ 249 ∷ 185 ∷ 201 ∷ 154 ∷ 9 ∷ 120 ∷ 77 ∷ 228 ∷ 114 ∷ 166 ∷ 6
    ∷ 191 ∷ 139 ∷ 98 ∷ 102 ∷ 221 ∷ 48 ∷ 253 ∷ 226 ∷ 152 ∷ 37 ∷ 179 ∷ 16 ∷ 145 ∷ 34 ∷ 136 ∷ 54
    ∷ 208 ∷ 148 ∷ 206 ∷ 143 ∷ 150 ∷ 219 ∷ 189 ∷ 241 ∷ 210 ∷ 19 ∷ 92 ∷ 131 ∷ 56 ∷ 70 ∷ 64 ∷ 30
    ∷ 66 ∷ 182 ∷ 163 ∷ 195 ∷ 72 ∷ 126 ∷ 110 ∷ 107 ∷ 58 ∷ 40 ∷ 84 ∷ 250 ∷ 133 ∷ 186 ∷ 61 ∷ 202
    ∷ 94 ∷ 155 ∷ 159 ∷ 10 ∷ 21 ∷ 121 ∷ 43 ∷ 78 ∷ 212 ∷ 229 ∷ 172 ∷ 115 ∷ 243 ∷ 167 ∷ 87 ∷ 7
    ∷ 112 ∷ 192 ∷ 247 ∷ 140 ∷ 128 ∷ 99 ∷ 13 ∷ 103 ∷ 74 ∷ 222 ∷ 237 ∷ 49 ∷ 197 ∷ 254 ∷ 24 ∷ 227
    ∷ 165 ∷ 153 ∷ 119 ∷ 38 ∷ 184 ∷ 180 ∷ 124 ∷ 17 ∷ 68 ∷ 146 ∷ 217 ∷ 35 ∷ 32 ∷ 137 ∷ 46 ∷ 55
    ∷ 63 ∷ 209 ∷ 91 ∷ 149 ∷ 188 ∷ 207 ∷ 205 ∷ 144 ∷ 135 ∷ 151 ∷ 178 ∷ 220 ∷ 252 ∷ 190 ∷ 97 ∷ 242
    ∷ 86 ∷ 211 ∷ 171 ∷ 20 ∷ 42 ∷ 93 ∷ 158 ∷ 132 ∷ 60 ∷ 57 ∷ 83 ∷ 71 ∷ 109 ∷ 65 ∷ 162 ∷ 31
    ∷ 45 ∷ 67 ∷ 216 ∷ 183 ∷ 123 ∷ 164 ∷ 118 ∷ 196 ∷ 23 ∷ 73 ∷ 236 ∷ 127 ∷ 12 ∷ 111 ∷ 246 ∷ 108
    ∷ 161 ∷ 59 ∷ 82 ∷ 41 ∷ 157 ∷ 85 ∷ 170 ∷ 251 ∷ 96 ∷ 134 ∷ 177 ∷ 187 ∷ 204 ∷ 62 ∷ 90 ∷ 203
    ∷ 89 ∷ 95 ∷ 176 ∷ 156 ∷ 169 ∷ 160 ∷ 81 ∷ 11 ∷ 245 ∷ 22 ∷ 235 ∷ 122 ∷ 117 ∷ 44 ∷ 215 ∷ 79
    ∷ 174 ∷ 213 ∷ 233 ∷ 230 ∷ 231 ∷ 173 ∷ 232 ∷ 116 ∷ 214 ∷ 244 ∷ 234 ∷ 168 ∷ 80 ∷ 88 ∷ 175 ∷ []

abbrev pub halves_list : List ℕ
halves_list =
    0 ∷ 215 ∷ 234 ∷ 61 ∷ 238 ∷ 57 ∷ 4 ∷ 211 ∷ 36 ∷ 243 ∷ 206 ∷ 25 ∷ 202 ∷ 29 ∷ 32 ∷ 247
    ∷ 254 ∷ 41 ∷ 20 ∷ 195 ∷ 16 ∷ 199 ∷ 250 ∷ 45 ∷ 218 ∷ 13 ∷ 48 ∷ 231 ∷ 52 ∷ 227 ∷ 222 ∷ 9
    ∷ 32 ∷ 33 ∷ 34 ∷ 35 ∷ 36 ∷ 37 ∷ 38 ∷ 39 ∷ 40 ∷ 41 ∷ 42 ∷ 43 ∷ 44 ∷ 45 ∷ 46 ∷ 47
    ∷ 48 ∷ 49 ∷ 50 ∷ 51 ∷ 52 ∷ 53 ∷ 54 ∷ 55 ∷ 56 ∷ 57 ∷ 58 ∷ 59 ∷ 60 ∷ 61 ∷ 62 ∷ 63
    ∷ 100 ∷ 179 ∷ 142 ∷ 89 ∷ 138 ∷ 93 ∷ 96 ∷ 183 ∷ 64 ∷ 151 ∷ 170 ∷ 125 ∷ 174 ∷ 121 ∷ 68 ∷ 147
    ∷ 154 ∷ 77 ∷ 112 ∷ 167 ∷ 116 ∷ 163 ∷ 158 ∷ 73 ∷ 190 ∷ 105 ∷ 84 ∷ 131 ∷ 80 ∷ 135 ∷ 186 ∷ 109
    ∷ 96 ∷ 97 ∷ 98 ∷ 99 ∷ 100 ∷ 101 ∷ 102 ∷ 103 ∷ 104 ∷ 105 ∷ 106 ∷ 107 ∷ 108 ∷ 109 ∷ 110 ∷ 111
    ∷ 112 ∷ 113 ∷ 114 ∷ 115 ∷ 116 ∷ 117 ∷ 118 ∷ 119 ∷ 120 ∷ 121 ∷ 122 ∷ 123 ∷ 124 ∷ 125 ∷ 126 ∷ 127
    ∷ 208 ∷ 7 ∷ 58 ∷ 237 ∷ 62 ∷ 233 ∷ 212 ∷ 3 ∷ 244 ∷ 35 ∷ 30 ∷ 201 ∷ 26 ∷ 205 ∷ 240 ∷ 39
    ∷ 46 ∷ 249 ∷ 196 ∷ 19 ∷ 192 ∷ 23 ∷ 42 ∷ 253 ∷ 10 ∷ 221 ∷ 224 ∷ 55 ∷ 228 ∷ 51 ∷ 14 ∷ 217
    ∷ 160 ∷ 161 ∷ 162 ∷ 163 ∷ 164 ∷ 165 ∷ 166 ∷ 167 ∷ 168 ∷ 169 ∷ 170 ∷ 171 ∷ 172 ∷ 173 ∷ 174 ∷ 175
    ∷ 176 ∷ 177 ∷ 178 ∷ 179 ∷ 180 ∷ 181 ∷ 182 ∷ 183 ∷ 184 ∷ 185 ∷ 186 ∷ 187 ∷ 188 ∷ 189 ∷ 190 ∷ 191
    ∷ 180 ∷ 99 ∷ 94 ∷ 137 ∷ 90 ∷ 141 ∷ 176 ∷ 103 ∷ 144 ∷ 71 ∷ 122 ∷ 173 ∷ 126 ∷ 169 ∷ 148 ∷ 67
    ∷ 74 ∷ 157 ∷ 160 ∷ 119 ∷ 164 ∷ 115 ∷ 78 ∷ 153 ∷ 110 ∷ 185 ∷ 132 ∷ 83 ∷ 128 ∷ 87 ∷ 106 ∷ 189
    ∷ 224 ∷ 225 ∷ 226 ∷ 227 ∷ 228 ∷ 229 ∷ 230 ∷ 231 ∷ 232 ∷ 233 ∷ 234 ∷ 235 ∷ 236 ∷ 237 ∷ 238 ∷ 239
    ∷ 240 ∷ 241 ∷ 242 ∷ 243 ∷ 244 ∷ 245 ∷ 246 ∷ 247 ∷ 248 ∷ 249 ∷ 250 ∷ 251 ∷ 252 ∷ 253 ∷ 254 ∷ 255 ∷ []

-- ---- powers

-- x, 2 x, 4 x, ..
abbrev doubles : ℕ → List ℕ → Bool
doubles x [] = true
doubles x (y ∷ ys) = both (eqb x y) (doubles (times x 2) ys)

doubles_at : (ys : List ℕ) (m : ℕ) → T (doubles (power gf256 2 m) ys) → (k : ℕ) → k < length ys → get_or ys k 0 ≡ power gf256 2 (m + k)
unfolding power
doubles_at [] m t k h = absurd (omega arith)
doubles_at (y ∷ ys) m t zero h =
    sym (eqb→eq (power gf256 2 m) y (both_left (eqb (power gf256 2 m) y) (doubles (power gf256 2 (suc m)) ys) t)) ∙ ap (power gf256 2) (sym (add-zero m))
doubles_at (y ∷ ys) m t (suc k) h =
    doubles_at ys (suc m) (both_right (eqb (power gf256 2 m) y) (doubles (power gf256 2 (suc m)) ys) t) k (omega arith)
    ∙ ap (power gf256 2) (suc-add m k ∙ sym (add-suc m k))

powers_tested : T (doubles 1 powers_list)
unfolding product
powers_tested = tt

-- each of the 255 powers is right
pub powers_right : Powers powers_list
unfolding power
powers_right = record { all = refl; power_at = λ k h. doubles_at powers_list 0 powers_tested k h ∙ ap (power gf256 2) (zero-add k) }

-- ---- logarithms

-- the power is in the table, and is the byte
undoes : ℕ → Bool
undoes i = both (ltb (get_or logs_list i 0) 255) (eqb (get_or powers_list (get_or logs_list i 0) 0) (suc i))

logs_tested : T (upto undoes 255)
unfolding undoes
logs_tested = tt

log_is : (i : ℕ) → i < 255 → IsLog (suc i) (get_or logs_list i 0)
unfolding undoes
log_is i h =
    let t : T (undoes i) = upto_at undoes 255 logs_tested i h in
    let s : get_or logs_list i 0 < 255 = ltb→lt (get_or logs_list i 0) 255 (both_left (ltb (get_or logs_list i 0) 255) (eqb (get_or powers_list (get_or logs_list i 0) 0) (suc i)) t) in
    record {
      small = s;
      is =
          sym (powers_right.power_at (get_or logs_list i 0) s)
          ∙ eqb→eq (get_or powers_list (get_or logs_list i 0) 0) (suc i)
          (both_right (ltb (get_or logs_list i 0) 255) (eqb (get_or powers_list (get_or logs_list i 0) 0) (suc i)) t);
    }

-- the logarithm of each byte other than 0 is right
pub logs_right : Logs logs_list
logs_right = record { all = refl; log_at = log_is }

-- ---- halves

-- the half of c, by the table
given : ℕ → ℕ
given c = bit_xor (get_or halves_list c 0) c

right : ℕ → Bool
right z = or (eqb (given (bit_xor (times z z) z)) z) (eqb (given (bit_xor (times z z) z)) (bit_xor z 1))

halves_tested : T (upto right 256)
unfolding given right product
halves_tested = tt

either : (a b c : ℕ) → T (or (eqb a b) (eqb a c)) → (a ≡ b) ⊎ (a ≡ c)
either a b c t = ⊎_elim (λ u. inl (eqb→eq a b u)) (λ u. inr (eqb→eq a c u)) (or_one (eqb a b) (eqb a c) t)

pub halves_right : Halves halves_list
unfolding given right
halves_right = record {
  all = refl;
  half_at = λ c b a h e.
      subst (λ (x : ℕ). (given x ≡ a) ⊎ (given x ≡ bit_xor a 1)) e
      (either (given (bit_xor (times a a) a)) a (bit_xor a 1) (upto_at right 256 halves_tested a h));
}
