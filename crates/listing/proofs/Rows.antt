-- The worked rows of what is printed: one theorem, which the checker computes from the definitions. Assumes nothing.
use mathlib.Core.Path.{refl}
use Rattle.listing.specs.Listing.{task_name, event_name, transaction_name, label_name, has_number, transaction_line, transaction_lines, is_target, spaces, margin, register, target, instruction_text, instruction_line, instruction_lines, transaction_word, heading, body_lines, first_lines, listing}
use Rattle.listing.specs.ListingRows.{branching, ListingRows}
use Rattle.model.proofs.Definitions.{definitions}
use Rattle.model.specs.Starred.{counting}
use Rattle.text.specs.Text.{decimal_of, decimal, spaced}
use Rattle.tokens.specs.Tokens.{statement_names}
use Rattle.tokens.specs.Uses.{uses_a, uses_b, uses_k, is_jump}

pub listing-rows : ListingRows
unfolding definitions counting branching decimal_of decimal spaced statement_names uses_a uses_b uses_k is_jump task_name event_name transaction_name label_name has_number transaction_line transaction_lines is_target spaces margin register target instruction_text instruction_line instruction_lines transaction_word heading body_lines first_lines listing
listing-rows =
    record {
      counting_listed = refl;
      branching_accepted = refl;
      branching_listed = refl;
      one_digit = refl;
      two_digits = refl;
      three_digits = refl;
      all_fields = refl;
    }
