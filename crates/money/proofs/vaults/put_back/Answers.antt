use Rattle.std.proofs.Common.{◌≡◌, true, Some, Option, IsSomeAnd, subst, sym, refl, ◌∙◌}
use Rattle.cells.specs.Listed.{listed}
use Rattle.rules.specs.Causes.{put_back, with_slips}
use Rattle.rules.specs.Ledger.{Ledger, Slip, is_standing, struck, moved}
use Rattle.rules.proofs.Funds.{slips_moved}
use Rattle.rules.proofs.Slips.{given_back}
use Rattle.book.specs.declared.funds.Fund.{Fund}
use Rattle.book.specs.Ledgers.{ledger_in}
use Rattle.book.specs.Means.{slip_in, slips_in, traders_in, clients_in}
use Rattle.book.proofs.Facts.{capped_after}
use Rattle.book.proofs.Readings.{read_at}
use Rattle.money.proofs.Paying.{no_contracts, found_struck}
use Rattle.money.proofs.vaults.put_back.Goals as goal
use Rattle.money.proofs.vaults.put_back.Goals.{After-remove}

back : (P : Fund → Type 0) (o : Option Fund) (x : Fund) → IsSomeAnd o P → o ≡ Some x → P x
back P o x h q = subst (λ v. IsSomeAnd v P) q h

module _ (c : After-remove) where
  standing : is_standing (slip_in c.args.stub) (ledger_in c.args.book.now).slips ≡ true
  standing = (read_at _ _ c.find.result c.in_ok-place.place c.find.ensures c.in_ok-place.ensures.ok_part).1

  abbrev l : Ledger
  l = ledger_in c.args.book.now

  abbrev s : Slip
  s = slip_in c.args.stub

  -- the ledger without the slip
  abbrev k : Ledger
  k = with_slips l (struck s l.slips) l.made

  moves : (traders_in c.set_collateral.new.traders ≡ (moved k s.holder s.amount).traders) × (clients_in c.set_collateral.new.clients ≡ (moved k s.holder s.amount).clients)
  moves = c.set_collateral.ensures k s.amount refl refl (back _ c.restored.result c.in_ok-fund.fund c.restored.ensures c.in_ok-fund.ensures.ok_part)

  shorter : slips_in c.remove.new.self ≡ struck s l.slips
  shorter = found_struck s (listed c.args.book.now.slips) (listed c.remove.new.self) c.in_ok-place.place (read_at _ _ c.find.result c.in_ok-place.place c.find.ensures c.in_ok-place.ensures.ok_part).2 c.remove.ensures

pub invariant_of-book : goal.invariant_of-book
invariant_of-book c = record { capped = capped_after no_contracts c.args.book.now (put_back (s c)) (given_back no_contracts (l c) (s c) (standing c)) _ _ _ (moves c).0 (moves c).1 (shorter c ∙ sym (slips_moved (k c) (s c).holder (s c).amount)) }
