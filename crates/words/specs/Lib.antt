-- Device states, answers and refusals as words.
pub mod Words
