-- What each answer to an order writes. Assumes nothing.
use Rattle.std.specs.Prelude.{ℕ, List}
use Rattle.replies.specs.declared.day.Reply.{Reply}
use Rattle.replies.specs.declared.day.Reply.TheVariants.{Trader, Client, Trade, Slip, Accepted, Refused, Misplaced, Unreadable}
use Rattle.replies.specs.Texts.{trader_text, client_text, trade_text, slip_text, accepted_text, refused_text, misplaced_text, unreadable_text}

abbrev pub reply_text : Reply → List ℕ
reply_text (Trader n) = trader_text n
reply_text (Client n) = client_text n
reply_text (Trade n) = trade_text n
reply_text (Slip n) = slip_text n
reply_text Accepted = accepted_text
reply_text (Refused e) = refused_text e
reply_text (Misplaced why) = misplaced_text why
reply_text (Unreadable why) = unreadable_text why
