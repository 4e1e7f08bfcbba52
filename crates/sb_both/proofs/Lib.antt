mod WordsTaken
mod Solved
mod Checked
