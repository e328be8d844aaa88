-- Members and tables are the same once their plain fields are: a bound has one proof. Assumes nothing.
use Rattle.std.proofs.Common.{◌≡◌, ◌≤◌, length, get_or}
use mathlib.Core.HLevel.{is_prop→PathP}
use native.Mathlib.Bridge.{le_prop}
use native.Mathlib.Nat.{ℕ_set}
use Rattle.members.specs.Limits.{most_weight, most_stake, ages}
use Rattle.members.specs.declared.member.Member.{Member}
use Rattle.members.specs.declared.table.Table.{Table}

pub same_member : (m n : Member) → m.number ≡ n.number → m.age ≡ n.age → m.weight ≡ n.weight → m.stake ≡ n.stake → m.paid ≡ n.paid → m.alive ≡ n.alive → m ≡ n
same_member m n a b w s p l i = record {
  number = a i;
  age = b i;
  weight = w i;
  stake = s i;
  paid = p i;
  alive = l i;
  weighs = (is_prop→PathP (λ k. 1 ≤ w k) (λ k. le_prop) m.weighs.0 n.weighs.0 i, is_prop→PathP (λ k. w k ≤ most_weight) (λ k. le_prop) m.weighs.1 n.weighs.1 i);
  staked = (is_prop→PathP (λ k. 1 ≤ s k) (λ k. le_prop) m.staked.0 n.staked.0 i, is_prop→PathP (λ k. s k ≤ most_stake) (λ k. le_prop) m.staked.1 n.staked.1 i);
}

-- and tables, once their weights are
pub same_table : (t u : Table) → t.weights ≡ u.weights → t ≡ u
same_table t u e i = record {
  weights = e i;
  whole = is_prop→PathP (λ k. length (e k) ≡ ages) (λ k. ℕ_set _ _) t.whole u.whole i;
  weighs = λ n. (is_prop→PathP (λ k. 1 ≤ get_or (e k) n 1) (λ k. le_prop) (t.weighs n).0 (u.weighs n).0 i, is_prop→PathP (λ k. get_or (e k) n 1 ≤ most_weight) (λ k. le_prop) (t.weighs n).1 (u.weighs n).1 i);
}
